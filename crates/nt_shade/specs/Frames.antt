-- What a shade says of the frames of a processor, in the words of the machine's definitions. The name of each frame
-- is 0.
use Rattle.std.specs.Prelude.{List, map, reverse}
use Rattle.nt_event.specs.Frame.{Frame}
use Rattle.nt_shade.specs.declared.frames.ShadeFrame.{ShadeFrame}

-- a shade has the lock acquired last at the end, the definitions have it first
abbrev pub frame_said : ShadeFrame → Frame
frame_said x =
    record {
      name = 0;
      body = x.body;
      level = x.level;
      place = x.place;
      crit = x.crit;
      guard = x.guard;
      kernel_phase = x.kernel_phase;
      leaving = x.leaving;
      again = x.again;
      spin = x.spin;
      held = reverse x.held.items;
    }

-- a shade has the innermost frame last, the definitions have it first
abbrev pub part_said : List ShadeFrame → List Frame
part_said xs = map frame_said (reverse xs)
