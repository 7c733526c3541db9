-- What an event did is put field by field.
use Rattle.std.specs.Prelude.{[], codes, decimal, ◌++◌, ◌∷◌}
use Rattle.nt_line.specs.Rows.{command_row}
use Rattle.nt_text.specs.Lines.{Row}
use Rattle.nt_print.specs.Report.{begun_row, key_row, replied, used}
use Rattle.nt_print.proofs.FieldsPut.{behind, last_behind}
use Rattle.nt_print.proofs.events.put_what.Goals as goal

pub returns-in_ok-put_called-in-Call : goal.returns-in_ok-put_called-in-Call
returns-in_ok-put_called-in-Call c =
    let frame : Row = decimal c.in-Call.frame ∷ [] in
    let called : Row = command_row c.args.input.now.names c.in-Call.command in
    rw c.in-Call.is
    (last_behind _ _ _ _ (codes "call" ∷ (frame ++ called)) (replied c.in-Call.reply)
    (behind _ _ _ (codes "call" ∷ frame) called
    (behind _ _ _ (codes "call" ∷ []) frame c.in_ok-extend_from_slice-in-Call.ensures.items c.in_ok-put_number-in-Call.ensures)
    c.in_ok-put_called-in-Call.ensures)
    c.put_replied.ensures)

pub returns-in_ok-put_begun-in-Begin : goal.returns-in_ok-put_begun-in-Begin
returns-in_ok-put_begun-in-Begin c =
    let begun : Row = begun_row c.args.input.now c.in-Begin.begun in
    rw c.in-Begin.is
    (last_behind _ _ _ _ (codes "begin" ∷ begun) (used c.in-Begin.from)
    (behind _ _ _ (codes "begin" ∷ []) begun c.in_ok-extend_from_slice-in-Begin.ensures.items c.in_ok-put_begun-in-Begin.ensures) c.put_used.ensures)

pub returns-in_ok-put_key-in-Expire : goal.returns-in_ok-put_key-in-Expire
returns-in_ok-put_key-in-Expire c =
    let key : Row = key_row c.args.input.now.names c.in-Expire.key in
    rw c.in-Expire.is
    (last_behind _ _ _ _ (codes "expire" ∷ key) (used c.in-Expire.from)
    (behind _ _ _ (codes "expire" ∷ []) key c.in_ok-extend_from_slice-in-Expire.ensures.items c.in_ok-put_key-in-Expire.ensures)
    c.put_used-in-Expire.ensures)
