-- Rows that were read of the classes of processors, one after another.
use Rattle.std.proofs.Common.{ap, arith, subst, sym, ◌∙◌}
use Rattle.std.proofs.lemmas.Grind.{common_steps}
use Rattle.std.proofs.lemmas.List.{get_or_default}
use Rattle.std.proofs.lemmas.List.Elements.{All-nil, All-push}
use Rattle.std.specs.Prelude.{All, IsTrue, List, [], get_or, length, map, ℕ, ◌*◌, ◌++◌, ◌+◌, ◌<◌, ◌∷◌, ◌≡◌, ◌≤◌}
use Rattle.nt_event.specs.declared.events.Event.{Event}
use Rattle.nt_event.specs.declared.numbers.CpuNo.{CpuNo}
use Rattle.nt_event.specs.declared.scripts.Script.{Script}
use Rattle.nt_event.specs.Lists.{table}
use Rattle.nt_event.specs.Numbers.{cpu}
use Rattle.nt_event.specs.Own.{own_of}
use Rattle.nt_event.specs.Script.{fits}
use Rattle.nt_event.proofs.Tables.{get_or-table, length-table_from}
use Rattle.nt_floor.specs.Views.{HasWord}
use Rattle.nt_plain.specs.States.{PlainState, view_of}
use Rattle.nt_cpu.specs.Runs.{state_of}
use Rattle.nt_cpu.specs.States.{CpuState}
use Rattle.nt_cpus.specs.Following.{AreAfter}
use Rattle.nt_cpus.specs.States.{CpusState}
use Rattle.nt_shade_asks.specs.declared.class_asks.ClassAsks.{ClassAsks}
use Rattle.nt_shade_asks.specs.declared.unnoticed.Unnoticed.{Unnoticed}
use Rattle.nt_shade_asks.specs.Follows.{IsClassAsked, IsOf, place_of}
use Rattle.nt_shade_asks.proofs.Placed.{none_placed, one_placed}
use Rattle.nt_shade.specs.Asks.{IsRead}
use Rattle.nt_shade.proofs.Reading.{row_asked, row_room}

-- the row is read of one of the processors
pub record IsReadOf (cpus : List CpuState) (f : PlainState) (row : ClassAsks) : Type 0 where
  pub cpu : row.cpu.0 < length cpus
  pub class : row.class < 16
  pub read : (d : CpuState) → IsRead (get_or cpus row.cpu.0 d).own f row.cpu row.class row

-- a row read of the processor at a place of the list, for one of the 16 classes, is a row of that list
pub is_read_of : (cpus : List CpuState) (f : PlainState) (n k : ℕ) (row : ClassAsks) (item : CpuState) → n < length cpus → k < 16 →
    item ≡ get_or cpus n item → IsRead item.own f (cpu n) k row → IsReadOf cpus f row
is_read_of cpus f n k row item low class is read = record {
  cpu = rw read.cpu low;
  class = rw read.class class;
  read = λ d.
      let here : IsRead (get_or cpus n d).own f (cpu n) k row = subst (λ (x : CpuState). IsRead x.own f (cpu n) k row)
      (is ∙ get_or_default cpus n item d low) read in
      let classed = subst (λ (m : ℕ). IsRead (get_or cpus n d).own f (cpu n) m row) (sym read.class) here in
      subst (λ (p : CpuNo). IsRead (get_or cpus p.0 d).own f p row.class row) (sym read.cpu) classed;
}

-- the first rows, so many
pub record AreRows (cpus : List CpuState) (f : PlainState) (n : ℕ) (rows : List ClassAsks) : Type 0 where
  pub places : map place_of rows ≡ table n (λ place. place)
  pub read : All (IsReadOf cpus f) rows

-- an empty list has the first zero rows of the processors
pub no_rows : (cpus : List CpuState) (f : PlainState) (rows : List ClassAsks) → rows ≡ [] → AreRows cpus f 0 rows
no_rows cpus f rows e = record { places = none_placed rows e; read = rw e (All-nil (IsReadOf cpus f)) }

-- and the next one
pub row_on : (cpus : List CpuState) (f : PlainState) (n m : ℕ) (rows new : List ClassAsks) (x : ClassAsks) → AreRows cpus f n rows → new ≡ rows ++ x ∷ [] →
    place_of x ≡ n → n + 1 ≡ m → IsReadOf cpus f x → AreRows cpus f m new
row_on cpus f n m rows new x h e p k r = rw (e, ← k) (record {
  places = one_placed n rows x h.places p;
  read = All-push (IsReadOf cpus f) rows x h.read r;
})

module _ (past : List Event) (c : CpusState) (f : PlainState) (after : AreAfter past c f.script (view_of f)) where
  -- there are as many processors as the script has
  pub cpu_count : length c.cpus ≡ c.script.cpus
  cpu_count = ap length after.every ∙ length-table_from 0 c.script.cpus (λ p. state_of c.script (cpu p) c.limit past)

  -- each keeps what the history says
  kept_by : (p : ℕ) (d : CpuState) → p < length c.cpus → (get_or c.cpus p d).own ≡ own_of c.script (cpu p) past
  kept_by p d low =
      let within : p < c.script.cpus = subst (λ (n : ℕ). p < n) cpu_count low in
      ap (λ (xs : List CpuState). (get_or xs p d).own) after.every
      ∙ ap (λ (x : CpuState). x.own) (get_or-table c.script.cpus p (λ q. state_of c.script (cpu q) c.limit past) d within)

  -- each processor has a count of what it has seen for each of the 16 classes
  pub seen_count : (p : ℕ) (d : CpuState) → p < length c.cpus → length (get_or c.cpus p d).own.seen ≡ 16
  seen_count p d low = rw (kept_by p d low) (length-table_from 0 16 _)

  -- the floor has a word for each class of each processor
  pub has_word : (p : CpuNo) (k : ℕ) → p.0 < length c.cpus → k < 16 → HasWord (view_of f) p k
  has_word p k low class =
      let within : p.0 < c.script.cpus = subst (λ (n : ℕ). p.0 < n) cpu_count low in
      (subst (λ (s : Script). p.0 < s.cpus) (sym after.same) within, class)

  row_is : (row : ClassAsks) → IsReadOf c.cpus f row → IsRead (own_of c.script row.cpu past) f row.cpu row.class row
  row_is row r =
      let d : CpuState = state_of c.script row.cpu c.limit past in
      subst (λ x. IsRead x f row.cpu row.class row) (kept_by row.cpu.0 d r.cpu) (r.read d)

  -- rows that were read of the processors hold what the history says was asked
  pub rows_asked : (rows : List ClassAsks) → All (IsReadOf c.cpus f) rows → All (IsClassAsked c.script past) rows
  rows_asked rows all k d l =
      let row = get_or rows k d in
      let r = all k d l in
      row_asked c.script past f after.follows after.same row.cpu row.class (has_word row.cpu row.class r.cpu r.class) row r.class (row_is row r)

  -- the rows of all 16 classes of all processors, in order, are those the script needs, with room for each lane
  pub rows_of : (x : Unnoticed) → AreRows c.cpus f (length c.cpus * 16) x.classes.items → IsOf c.script x
  rows_of x are = record {
    places = are.places ∙ ap (λ (n : ℕ). table (n * 16) (λ place. place)) cpu_count;
    room = λ k d l.
        let row = get_or x.classes.items k d in
        let r = are.read k d l in
        row_room c.script past f after.follows after.same row.cpu row.class (has_word row.cpu row.class r.cpu r.class) row r.class (row_is row r);
  }

-- a script that fits has few processors
few_cpus : (s : Script) → IsTrue (fits s) → s.cpus ≤ 64
few_cpus s h = grind (arith, common_steps)

-- a number below the number of processors is below 256
pub number_fits : (past : List Event) (c : CpusState) (f : PlainState) (n : ℕ) → AreAfter past c f.script (view_of f) → n < length c.cpus → n < 256
number_fits past c f n after low =
    let count = cpu_count past c f after in
    let few = few_cpus c.script after.script in
    omega (arith, count, few, low)

-- so there is room for the 16 classes of each
pub room_fits : (past : List Event) (c : CpusState) (f : PlainState) → AreAfter past c f.script (view_of f) → length c.cpus * 16 ≤ 1024
room_fits past c f after =
    let count = cpu_count past c f after in
    let few = few_cpus c.script after.script in
    omega (arith, count, few)
