-- What callers see of a frame.
use Rattle.nt_event.specs.Frame.{Frame}
use Rattle.nt_frame.specs.declared.view.FrameView.{FrameView}

abbrev pub view_of : Frame → FrameView
view_of f =
    record {
      frame = f.name;
      body = f.body;
      place = f.place;
      kernel_phase = f.kernel_phase;
      leaving = f.leaving;
      again = f.again;
    }
