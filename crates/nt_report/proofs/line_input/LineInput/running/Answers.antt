use Rattle.std.proofs.Common.{◌≡◌, ◌<◌, ◌%◌, ◌∙◌, ℕ, true, List, [], None, Ok, length, slice_index_or, sym, arith}
use Rattle.std.specs.Str.{bytes_eq}
use Rattle.std.proofs.lemmas.List.{length-set}
use Rattle.std.proofs.lemmas.List.Elements.{All-get_or, All-set}
use Rattle.std.proofs.lemmas.Slice.Eq.{bytes_eq-Decides}
use Rattle.nt_line.specs.NameLists.{NameLists}
use Rattle.nt_report.specs.declared.line_input.Running.{Running}
use Rattle.nt_report.specs.Fields.{read_running}
use Rattle.nt_report.specs.declared.line_input.TheConstants.{PLACES}
use Rattle.nt_report.specs.LineInputs.{IsRead}
use Rattle.nt_report.proofs.line_input.LineInput.running.Goals as goal

-- the same field names the same thread
same_field : (names : NameLists) (last : Running) (field : List ℕ) → bytes_eq field last.field.now ≡ true → IsRead names last →
    Ok last.thread ≡ read_running names field
same_field names last field same read =
    let is : field ≡ last.field.now = (bytes_eq-Decides field last.field.now).0 same in rw is (sym read)

pub returns-then-is_word-clause-thread : goal.returns-then-is_word-clause-thread
returns-then-is_word-clause-thread c =
    let places = c.self.invariant.places in
    let place : c.args.cpu.0 % PLACES < length c.self.inside.last = omega (arith, places) in
    let none : Running = record { field = record { ref_ptr = (0, 0); now = [] }; thread = None } in
    let last : Running = slice_index_or c.self.inside.last (c.args.cpu.0 % PLACES) none in
    let read = All-get_or (IsRead c.self.inside.input.now.names) c.self.inside.last (c.args.cpu.0 % PLACES) none place c.self.invariant.read in
    rw (← c.self.view_is) (same_field c.self.inside.input.now.names last c.args.field.now (sym c.is_word.ensures ∙ c.if-is_word.true) read)

pub invariant_of-self : goal.invariant_of-self
invariant_of-self c =
    let place = c.args.cpu.0 % PLACES in
    let seen : Running = record { field = c.args.field; thread = c.in_ok-thread.thread } in
    let read = sym c.in_ok-thread.ensures in
    record {
      places = length-set c.self.inside.last _ _ ∙ c.self.invariant.places;
      read = All-set (IsRead c.self.inside.input.now.names) c.self.inside.last place seen read c.self.invariant.read;
    }
