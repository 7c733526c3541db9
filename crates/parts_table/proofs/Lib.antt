mod FrameCalls
