use Rattle.nt_script.proofs.Printed.{isrs_at, threads_at, apcs_at, routines_at, printed}
use Rattle.nt_script.proofs.printing.print.Goals as goal

pub put_isrs-requires : goal.put_isrs-requires
put_isrs-requires c = isrs_at c.args.input.now c.as_slice.result.now c.requires c.as_slice.ensures

pub put_threads-requires-clause-fits : goal.put_threads-requires-clause-fits
put_threads-requires-clause-fits c = threads_at c.args.input.now c.as_slice-4.result.now c.requires c.as_slice-4.ensures

pub put_apcs-requires-clause-fits : goal.put_apcs-requires-clause-fits
put_apcs-requires-clause-fits c = apcs_at c.args.input.now c.as_slice-5.result.now c.requires c.as_slice-5.ensures

pub put_routines-requires-clause-fits : goal.put_routines-requires-clause-fits
put_routines-requires-clause-fits c = routines_at c.args.input.now c.as_slice-6.result.now c.requires c.as_slice-6.ensures

pub returns : goal.returns
returns c = printed c.args.input.now c.new-out.result.items c.put_header.new.out.items c.put_isrs.new.out.items c.put_dpcs.new.out.items
    c.put_timers.new.out.items c.put_threads.new.out.items c.put_apcs.new.out.items c.put_locks.new.out.items
    c.put_routines.new.out.items c.as_slice.result.now c.as_slice-2.result.now
    c.as_slice-3.result.now c.as_slice-4.result.now c.as_slice-5.result.now c.as_slice-6.result.now
    c.as_slice.ensures c.as_slice-2.ensures c.as_slice-3.ensures c.as_slice-4.ensures c.as_slice-5.ensures c.as_slice-6.ensures
    c.new-out.ensures.items c.in_ok-put_header.ensures c.in_ok-put_isrs.ensures c.in_ok-put_dpcs.ensures c.in_ok-put_timers.ensures c.in_ok-put_threads.ensures
    c.in_ok-put_apcs.ensures c.in_ok-put_locks.ensures c.in_ok-put_routines.ensures
