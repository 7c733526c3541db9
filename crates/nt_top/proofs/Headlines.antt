-- The headline, from what the call answered and the laws of runs.
use Rattle.std.proofs.Common.{refl, subst, sym, ◌≡◌, ℕ, List, [], ◌∷◌, Err, Ok, Result}
use Rattle.std.specs.Io.KnownBytes.{append_known}
use Rattle.std.specs.Prelude.{Option, Some, length, reverse, true}
use Rattle.nt_close.proofs.AtRest.{closed_either}
use Rattle.nt_close.proofs.Closed.{no_dpc_is_left, nothing_is_eligible}
use Rattle.nt_close.proofs.Owed.{no_due_key_is_left}
use Rattle.nt_close.proofs.Quiet.{nothing_waits_behind_a_block}
use Rattle.nt_close.proofs.ReadyThreads.{no_thread_is_left}
use Rattle.nt_close.proofs.Spinners.{held_elsewhere}
use Rattle.nt_close.specs.Close.{IsClosed}
use Rattle.nt_event.specs.declared.events.Event.{Event}
use Rattle.nt_event.specs.declared.events.History.{History}
use Rattle.nt_event.specs.declared.numbers.CpuNo.{CpuNo}
use Rattle.nt_event.specs.declared.scripts.Script.{Script}
use Rattle.nt_event.specs.Fitting.{events_fit}
use Rattle.nt_event.specs.Script.{fits, has_lock}
use Rattle.nt_event.specs.Robin.{is_settled}
use Rattle.nt_event.specs.Step.{IsRun}
use Rattle.nt_laws.proofs.Deliveries.{deliveries_are_eligible}
use Rattle.nt_laws.proofs.Fates.Deliveries.{deliveries_name_pending_inserts}
use Rattle.nt_laws.proofs.Named.Objects.{holds_of_every_object}
use Rattle.nt_laws.proofs.Named.RunFits.{run_fits}
use Rattle.nt_print.proofs.OneReport.{SpinIsPlain, left_plain}
use Rattle.nt_print.specs.Report.{report_text, spin_left}
use Rattle.nt_print.specs.declared.spins.Spun.{Spun}
use Rattle.nt_ranges.proofs.Cuts.{cut_lines_name_the_cut}
use Rattle.nt_ranges.proofs.Programs.{one_report_one_history}
use Rattle.nt_ranges.proofs.Spinners.{spins_lines_name_the_locks, spins_lines_name_the_spinners}
use Rattle.nt_ranges.specs.Spinners.{IsSettled}
use Rattle.nt_readings.proofs.OneFate.{each_insert_has_one_fate, waiting_are_the_pending}
use Rattle.nt_script.specs.declared.walk.Input.{Input}
use Rattle.nt_script.specs.Reading.{reading}
use Rattle.nt_script.specs.Text.{text as script_text}
use Rattle.nt_words.proofs.Answered.{form_within}
use Rattle.nt_words.specs.declared.form.Form.{Form}
use Rattle.nt_words.specs.declared.form.Form.TheVariants as form
use Rattle.nt_words.specs.Forms.{IsWithin}
use Rattle.nt_top.specs.declared.status.Status.{Status}
use Rattle.nt_top.specs.declared.status.Status.TheVariants as exit
use Rattle.nt_top.specs.declared.task.Task.{Task}
use Rattle.nt_top.specs.declared.task.Task.TheVariants as task
use Rattle.nt_top.specs.Headline.{AllDue, HasWritten, Headline, IsActual, IsUncut, IsWhole, IsWholeCheck, IsWholeLoad, IsWholeMigrate, NothingIsLeft}
use Rattle.nt_top.specs.Headline.{IsWholeAudit, IsWholeShrink, IsWholeVerify}
use Rattle.nt_top.specs.Audited.{IsAudited}
use Rattle.nt_top.specs.Shrunk.{IsShrunkTo}
use Rattle.nt_top.specs.Verified.{verify_text}
use Rattle.nt_verify.specs.Laws.{CallsAreExpected, CleanScriptsRefuseNothing, OrderedScriptsSpinNowhere}
use Rattle.nt_top.specs.Outcome.{Gave, IsFound, IsFoundBy, IsRunOf, IsWell}
use Rattle.nt_outside.specs.Sides.{Store, Supply}
use Rattle.nt_top.specs.Tasks.{Bad, and_then, input_of, limit_of, limited, migrated, task_of}
use Rattle.nt_top.proofs.Done.{run_of}
use Rattle.nt_top.proofs.Tasked.{IsCheck, IsRunTask, IsShrinkTask, check_is_one, live_is_a_run, replay_is_a_run, run_is_a_run, shrink_is_one}
use Rattle.nt_top.proofs.PlainTasks.{IsPlainTask, run_of_input, sound_task, task_plain}

-- each delivery in a run is eligible and names a pending insert, and inserts are as their objects hold
all_due : (s : Script) (limit : ℕ) (past : List Event) → fits s ≡ true → IsRun s limit past → AllDue s past
all_due s limit [] f r = tt
all_due s limit (e ∷ past) f r = (
  record {
    eligible = λ x k. deliveries_are_eligible s limit e past x r k;
    pending = deliveries_name_pending_inserts s limit e past r;
    inserts = holds_of_every_object s limit e past f r;
  },
  all_due s limit past f r.1,
)

-- in a settled run a processor that is not cut is closed
closed : (s : Script) (limit : ℕ) (past : List Event) (p : CpuNo) → IsRun s limit past → is_settled s limit past ≡ true → IsUncut s limit past p →
    IsClosed s limit p past
closed s limit past p r d u = record { run = r; settled = d; named = u.named; uncut = u.uncut }

-- in a settled run nothing is left at processors that are not cut
nothing_left : (s : Script) (limit : ℕ) (past : List Event) → IsRun s limit past → is_settled s limit past ≡ true → NothingIsLeft s limit past
nothing_left s limit past r d = record {
  still = λ p u. closed_either s limit p past (closed s limit past p r d u);
  requests = λ p x u. nothing_is_eligible s limit p past x (closed s limit past p r d u);
  dpcs = λ p u q. no_dpc_is_left s limit p past (closed s limit past p r d u) q;
  threads = λ p t u q h k. no_thread_is_left s limit p t past (closed s limit past p r d u) q h k;
  locks = λ p x u l h. held_elsewhere s limit p x past (closed s limit past p r d u) l h;
  blocks = λ t w h k. nothing_waits_behind_a_block s limit t w past r h k;
  keys = λ u. no_due_key_is_left s limit past r d u;
}

-- the lock of a line `spins` is one of the script
lock_named : (s : Script) (h : History) (p : ℕ) (x : Spun) → events_fit s h.events ≡ true → spin_left h p ≡ Some x → has_lock s x.lock ≡ true
lock_named s h p x fit e =
    let plain = subst (λ (o : Option Spun). SpinIsPlain s (length h.events) o) e (left_plain s h p fit) in
    plain.1

-- the history of a plain task's run is an actual one
actual : (t : Task) (h : History) → IsPlainTask t → IsRunOf t h → IsActual t h
actual t h p i =
    let r = run_of t h i in
    let s = (input_of t).script in
    let fit = (sound_task t p).fits in
    let own = run_of_input t h p i in
    let settled : IsSettled s h = record {
      fits = fit;
      run = own.run;
      settled = subst (λ (n : ℕ). is_settled s n (reverse h.events) ≡ true) (sym r.turns) r.settled;
    } in
    record {
      is = i;
      turns = r.turns;
      run = r.run;
      settled = r.settled;
      due = all_due s (limit_of t) (reverse h.events) fit r.run;
      fates = λ x n k. each_insert_has_one_fate s (limit_of t) x n (reverse h.events) r.run fit k;
      waiting = λ x. waiting_are_the_pending s (limit_of t) x (reverse h.events) r.run fit;
      left = nothing_left s (limit_of t) (reverse h.events) r.run r.settled;
      cut = λ n. cut_lines_name_the_cut s h n own.run;
      spins = λ n l. spins_lines_name_the_spinners s h n settled l;
      locked = λ n x e. lock_named s h n x (run_fits s (limit_of t) h.events fit r.run) e;
      spun = λ n x l e. spins_lines_name_the_locks s h n x settled l e;
      one = λ g k e. one_report_one_history (input_of t) h g own k e;
    }

-- what is written by each form
whole : (f : Form) (so sn : Supply) (ko kn : Store) (bytes text : List ℕ) (t : Task) (h : History) → IsWithin f → Gave bytes so sn → task_of f bytes ≡ Ok t →
    IsRunOf t h → text ≡ report_text (input_of t) h → kn.held ≡ append_known ko.held text → IsWhole f so sn ko kn
whole f so sn ko kn bytes text t h within gave read run is added = record {
  bytes = bytes;
  gave = gave;
  task = t;
  read = read;
  history = h;
  actual = actual t h (task_plain f bytes t within read) run;
  written = subst (λ (x : List ℕ). kn.held ≡ append_known ko.held x) is added;
}

-- a form that reports has the task of a run, and `check` that of a check
reported : (f : Form) (so sn : Supply) (ko kn : Store) (bytes text : List ℕ) (t : Task) → IsWithin f → Gave bytes so sn → task_of f bytes ≡ Ok t →
    IsWell t text → kn.held ≡ append_known ko.held text → IsRunTask t → IsWhole f so sn ko kn
reported f so sn ko kn bytes text (task.Run input turns) within gave read w added n =
    whole f so sn ko kn bytes text (task.Run input turns) w.history within gave read w.run w.is added
reported f so sn ko kn bytes text (task.Live input turns) within gave read w added n =
    whole f so sn ko kn bytes text (task.Live input turns) w.history within gave read w.run w.is added
reported f so sn ko kn bytes text (task.Replay input schedule) within gave read w added n =
    whole f so sn ko kn bytes text (task.Replay input schedule) w.history within gave read w.run w.is added
reported f so sn ko kn bytes text (task.Check input history) within gave read w added n = absurd n
reported f so sn ko kn bytes text (task.Migrate input) within gave read w added n = absurd n
reported f so sn ko kn bytes text (task.Verify input) within gave read w added n = absurd n
reported f so sn ko kn bytes text (task.Shrink input schedule goal) within gave read w added n = absurd n
reported f so sn ko kn bytes text (task.Audit input turns workers) within gave read w added n = absurd n

-- a check that went well, with its text written, is a whole check
checked : (so sn : Supply) (ko kn : Store) (bytes text : List ℕ) (t : Task) → Gave bytes so sn → task_of form.Check bytes ≡ Ok t → IsWell t text →
    kn.held ≡ append_known ko.held text → IsCheck t → IsWholeCheck so sn ko kn
checked so sn ko kn bytes text (task.Run input turns) gave read w added n = absurd n
checked so sn ko kn bytes text (task.Live input turns) gave read w added n = absurd n
checked so sn ko kn bytes text (task.Replay input schedule) gave read w added n = absurd n
checked so sn ko kn bytes text (task.Migrate input) gave read w added n = absurd n
checked so sn ko kn bytes text (task.Verify input) gave read w added n = absurd n
checked so sn ko kn bytes text (task.Shrink input schedule goal) gave read w added n = absurd n
checked so sn ko kn bytes text (task.Audit input turns workers) gave read w added n = absurd n
checked so sn ko kn bytes text (task.Check input history) gave read w added n = record {
  bytes = bytes;
  gave = gave;
  input = input;
  history = history;
  read = read;
  run = w.0.0;
  settled = w.0.1;
  written = subst (λ (x : List ℕ). kn.held ≡ append_known ko.held x) w.1 added;
}

-- a load that succeeded, with its text written, is a whole load
load_written : (seed turns : ℕ) (so sn : Supply) (ko kn : Store) (text : List ℕ) → IsFoundBy (form.Load seed turns) so sn exit.Ok text →
    kn.held ≡ append_known ko.held text → IsWholeLoad seed turns so sn ko kn
load_written seed turns so sn ko kn text w added = record {
  unread = w.0;
  history = w.1.history;
  run = w.1.run;
  written = subst (λ (x : List ℕ). kn.held ≡ append_known ko.held x) w.1.is added;
}

-- a migration that went well, with its text written, is a whole migration
migrate_written : (so sn : Supply) (ko kn : Store) (bytes text : List ℕ) (t : Task) → Gave bytes so sn → task_of form.Migrate bytes ≡ Ok t → IsWell t text →
    kn.held ≡ append_known ko.held text → IsWholeMigrate so sn ko kn
migrate_written so sn ko kn bytes text t gave read w added = go (reading bytes) refl read
  where
    go : (r : Result Input Bad) → reading bytes ≡ r → and_then r (λ input. Ok (task.Migrate (migrated input))) ≡ Ok t → IsWholeMigrate so sn ko kn
    go (Err bad) e k = cc
    go (Ok input) e k =
        let same : task.Migrate (migrated input) ≡ t = cc in
        let is : text ≡ script_text (migrated input) = subst (λ (u : Task). IsWell u text) (sym same) w in
        record {
          bytes = bytes;
          gave = gave;
          input = input;
          read = e;
          written = subst (λ (x : List ℕ). kn.held ≡ append_known ko.held x) is added;
        }

-- what the laws over findings say of every script
pub record OfFindings : Type 0 where
  pub expected : CallsAreExpected
  pub clean : CleanScriptsRefuseNothing
  pub ordered : OrderedScriptsSpinNowhere

-- a verification that went well, with its text written, is a whole verification
verify_written : (so sn : Supply) (ko kn : Store) (bytes text : List ℕ) (t : Task) → OfFindings → Gave bytes so sn → task_of form.Verify bytes ≡ Ok t →
    IsWell t text → kn.held ≡ append_known ko.held text → IsWholeVerify so sn ko kn
verify_written so sn ko kn bytes text t laws gave read w added = go (reading bytes) refl read
  where
    go : (r : Result Input Bad) → reading bytes ≡ r → and_then r (λ input. Ok (task.Verify input)) ≡ Ok t → IsWholeVerify so sn ko kn
    go (Err bad) e k = cc
    go (Ok input) e k =
        let same : task.Verify input ≡ t = cc in
        let is : text ≡ verify_text input = subst (λ (u : Task). IsWell u text) (sym same) w in
        record {
          bytes = bytes;
          gave = gave;
          input = input;
          read = e;
          written = subst (λ (x : List ℕ). kn.held ≡ append_known ko.held x) is added;
          expected = laws.expected;
          clean = laws.clean;
          ordered = laws.ordered;
        }

-- a shrinking that went well, with its text written, is a whole shrinking
shrink_written : (name : List ℕ) (so sn : Supply) (ko kn : Store) (bytes text : List ℕ) (t : Task) → Gave bytes so sn →
    task_of (form.Shrink name) bytes ≡ Ok t → IsWell t text → kn.held ≡ append_known ko.held text → IsShrinkTask name t → IsWholeShrink name so sn ko kn
shrink_written name so sn ko kn bytes text (task.Run input turns) gave read w added n = absurd n
shrink_written name so sn ko kn bytes text (task.Live input turns) gave read w added n = absurd n
shrink_written name so sn ko kn bytes text (task.Replay input schedule) gave read w added n = absurd n
shrink_written name so sn ko kn bytes text (task.Check input history) gave read w added n = absurd n
shrink_written name so sn ko kn bytes text (task.Migrate input) gave read w added n = absurd n
shrink_written name so sn ko kn bytes text (task.Verify input) gave read w added n = absurd n
shrink_written name so sn ko kn bytes text (task.Audit input turns workers) gave read w added n = absurd n
shrink_written name so sn ko kn bytes text (task.Shrink input schedule goal) gave read w added n = record {
  bytes = bytes;
  gave = gave;
  input = input;
  schedule = schedule;
  read = subst (λ (x : List ℕ). task_of (form.Shrink name) bytes ≡ Ok (task.Shrink input schedule x)) (sym n) read;
  text = text;
  shrunk = subst (λ (x : List ℕ). IsShrunkTo input schedule x text) (sym n) w;
  written = added;
}

-- an audit that went well, with its text written, is a whole audit
audit_written : (turns workers : ℕ) (so sn : Supply) (ko kn : Store) (bytes text : List ℕ) (t : Task) → Gave bytes so sn →
    task_of (form.Audit turns workers) bytes ≡ Ok t → IsWell t text → kn.held ≡ append_known ko.held text → IsWholeAudit turns so sn ko kn
audit_written turns workers so sn ko kn bytes text t gave read w added = go (reading bytes) refl read
  where
    go : (r : Result Input Bad) → reading bytes ≡ r → and_then r (λ input. Ok (task.Audit input (limited input turns) workers)) ≡ Ok t →
        IsWholeAudit turns so sn ko kn
    go (Err bad) e k = cc
    go (Ok input) e k =
        let same : task.Audit input (limited input turns) workers ≡ t = cc in
        let is : IsAudited input (limited input turns) text = subst (λ (u : Task). IsWell u text) (sym same) w in
        record { bytes = bytes; gave = gave; input = input; read = e; text = text; audited = is; written = added }

-- a form that succeeded, with its text written, has written what the form promises
written_by : OfFindings → (f : Form) (so sn : Supply) (ko kn : Store) (text : List ℕ) → IsWithin f → IsFoundBy f so sn exit.Ok text →
    kn.held ≡ append_known ko.held text → HasWritten f so sn ko kn
written_by laws (form.Run turns) so sn ko kn text within w added =
    reported (form.Run turns) so sn ko kn w.0 text w.2.0 within w.1 w.2.1 w.2.2 added (run_is_a_run turns w.0 w.2.0 w.2.1)
written_by laws (form.Live turns) so sn ko kn text within w added =
    reported (form.Live turns) so sn ko kn w.0 text w.2.0 within w.1 w.2.1 w.2.2 added (live_is_a_run turns w.0 w.2.0 w.2.1)
written_by laws form.Replay so sn ko kn text within w added =
    reported form.Replay so sn ko kn w.0 text w.2.0 within w.1 w.2.1 w.2.2 added (replay_is_a_run w.0 w.2.0 w.2.1)
written_by laws form.Check so sn ko kn text within w added = checked so sn ko kn w.0 text w.2.0 w.1 w.2.1 w.2.2 added (check_is_one w.0 w.2.0 w.2.1)
written_by laws (form.Load seed turns) so sn ko kn text within w added = load_written seed turns so sn ko kn text w added
written_by laws form.Migrate so sn ko kn text within w added = migrate_written so sn ko kn w.0 text w.2.0 w.1 w.2.1 w.2.2 added
written_by laws form.Verify so sn ko kn text within w added = verify_written so sn ko kn w.0 text w.2.0 laws w.1 w.2.1 w.2.2 added
written_by laws (form.Shrink goal) so sn ko kn text within w added =
    shrink_written goal so sn ko kn w.0 text w.2.0 w.1 w.2.1 w.2.2 added (shrink_is_one goal w.0 w.2.0 w.2.1)
written_by laws (form.Audit turns workers) so sn ko kn text within w added =
    audit_written turns workers so sn ko kn w.0 text w.2.0 w.1 w.2.1 w.2.2 added

-- with status 0 what is written is what the form asks for, given the laws on what is found in scripts
pub headline : OfFindings → Headline
headline laws words so sn ko kn a =
    let found : IsFound words so sn exit.Ok a.text = subst (λ (s : Status). IsFound words so sn s a.text) (sym a.written.0) a.cause in (
      found.0,
      found.1,
      written_by laws found.0 so sn ko kn a.text (form_within words (Ok found.0) found.1) found.2 a.written.1,
    )
