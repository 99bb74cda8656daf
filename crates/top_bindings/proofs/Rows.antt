-- What a declaration of the top level binds, one after another, whatever it is.
use Rattle.std.proofs.Common.{◌≡◌, ℕ, List, [], ◌∷◌, ◌++◌, refl, sym, ap, ◌∙◌, subst}
use Rattle.std.specs.Prelude.{Result, Ok, Err, Some, None, IfOk, OnOk}
use Rattle.cm_base.specs.declared.fault.Fault.{Fault}
use Rattle.cm_base.specs.declared.fault.Fault.TheVariants as fault
use Rattle.sml_trees.specs.declared.name.Name.{Name}
use Rattle.semantic_objects.specs.Tables.{Table as Named, with_all, with_entry}
use Rattle.semantic_objects.specs.Environments.{Top}
use Rattle.type_nodes.specs.Keeping.{IsKept}
use Rattle.sml_modules.specs.Graphs.{Graph, Keeps}
use Rattle.sml_modules.specs.Items.{map_rows}
use Rattle.name_trails.specs.Trails.{Rows}
use Rattle.static_semantics.specs.Inferring.{Progress, Scope, Answer, ◌>>=◌, gives}
use Rattle.static_semantics.specs.TypeInference.{new_label}
use Rattle.static_semantics.specs.Holding.{Given}
use Rattle.static_semantics.proofs.Holding.{given_then}
use Rattle.type_phrases.specs.Inferred.{Answers}
use Rattle.type_phrases.proofs.Steps.{still_refused}
use Rattle.core_scopes.specs.Scopes.{AreBare}
use Rattle.core_rules.proofs.Chains.{answers_stop}
use Rattle.unit_semantics.specs.StructureInference.{core_scope}
use Rattle.unit_semantics.proofs.Answers.{always}
use Rattle.unit_derivations.specs.Derived.{IsAtTop}
use Rattle.unit_derivations.specs.Promises.{every}
use Rattle.module_scopes.specs.Tops.{IsTopScope, AllRows}
use Rattle.module_scopes.proofs.Rows.{one_more, rows_more, rows_read, rows_hold}
use Rattle.structure_elab.specs.Moments.{Moment, moment, seen_at, progress_at, Passes, Elabs}
use Rattle.structure_elab.proofs.Chains.{passes_top, passes_then, seen_kept, there_kept, bare_kept, seen_before, stops, goes_on, same_left}
use Rattle.top_bindings.specs.Ready.{IsReadyTop}
use Rattle.top_bindings.specs.Bindings.{Inferring, infer_bound, infer_row, table_at, BindsRows, RowBound, RowsBound}

two_steps : {A B C : Type 0} (m : Answer (Unit {0})) (n : Answer A) (f : A → B) (k : B → Answer C)
    → ((m >>= λ u. n >>= λ r. gives (f r)) >>= k) ≡ (m >>= λ u. n >>= λ r. k (f r))
two_steps None n f k = refl
two_steps (Some (Err d)) n f k = refl
two_steps (Some (Ok u)) None f k = refl
two_steps (Some (Ok u)) (Some (Err d)) f k = refl
two_steps (Some (Ok u)) (Some (Ok r)) f k = refl

abbrev read_unit : Moment → Unit {0} → Unit {0}
read_unit m u = tt

abbrev NoneOf : Graph → Unit {0} → Type 0
NoneOf g u = Unit {0}

none_of : (g : Graph) (q : Result (Unit {0}) Fault) → IfOk q (NoneOf g)
none_of g (Ok u) = tt
none_of g (Err e) = tt

-- what is in scope stays fit at the top
pub top_inside : {old new : Moment} → IsTopScope old.graph old.top → Passes old new → new.top ≡ old.top
    → IsAtTop every old.graph.home (seen_at old) (progress_at new)
    → IsAtTop every new.graph.home (seen_at new) (progress_at new)
top_inside {old} {new} there p e h =
    subst (λ (top : Top). IsAtTop every new.graph.home top (progress_at new))
    (sym (seen_kept {old = old} {new = new} there p e))
    (subst (λ home. IsAtTop every home (seen_at old) (progress_at new)) (sym p.home) h)

-- a binding that binds under a name what inference gives, in a graph
pub record Binding {B Id V : Type 0} (name : B → Name) (one : Inferring B V) (value : Graph → Id → V)
    (has : Graph → Id → Type 0) : Type 0 where
  pub kept : (g h : Graph) → Keeps g h → (id : Id) → has g id → value h id ≡ value g id
  pub there : (g h : Graph) → Keeps g h → (id : Id) → has g id → has h id
  pub stays : (bind : B) (home : List ℕ) (top : Top) (st : Progress) → IsAtTop every home top st
      → Given (λ r. IsAtTop every home top r.1) (one bind home top st)

module _ {B Id V : Type 0} (name : B → Name) (one : Inferring B V) (value : Graph → Id → V)
    (has : Graph → Id → Type 0) (kind : Binding name one value has) where
  -- ---- rows in a graph that grows

  pub table_kept : (g h : Graph) (rows : Rows Id) → Keeps g h → AllRows (has g) rows
      → table_at value h rows ≡ table_at value g rows
  table_kept g h rows k there = ap (λ (z : Named V). with_all z [])
      (rows_read (has g) (value h) (value g) (kind.kept g h k) rows there)

  pub rows_kept : (g h : Graph) (rows : Rows Id) → Keeps g h → AllRows (has g) rows → AllRows (has h) rows
  rows_kept g h rows k there = rows_hold (has g) (has h) (kind.there g h k) rows there

  -- ---- one binding

  abbrev pub infer_one : B → Named V → List ℕ → Top → Progress → Answer (Named V × Progress)
  infer_one bind made home top st = infer_row name one bind made home top st

  abbrev rest_of : List B → List ℕ → Top → Named V × Progress → Answer (Named V × Progress)
  rest_of rest home top q = infer_bound name one rest q.0 home top q.1

  by_one : (bind : B) (rest : List B) (made : Named V) (home : List ℕ) (top : Top) (st : Progress)
      → infer_bound name one (bind ∷ rest) made home top st
      ≡ (infer_one bind made home top st >>= rest_of rest home top)
  by_one bind rest made home top st = sym (two_steps (new_label (core_scope home top) (name bind) made)
      (one bind home top st) (λ r. (with_entry (name bind).text r.0 made, r.1)) (rest_of rest home top))

  one_stays : (bind : B) (made : Named V) (home : List ℕ) (top : Top) (st : Progress) → IsAtTop every home top st
      → Given (λ q. IsAtTop every home top q.1) (infer_one bind made home top st)
  one_stays bind made home top st h =
      always (λ q. IsAtTop every home top q.1) (new_label (core_scope home top) (name bind) made) _ (λ u.
      given_then (λ r. IsAtTop every home top r.1) (λ q. IsAtTop every home top q.1) (one bind home top st) _
      (kind.stays bind home top st h) (λ r k. k))

  abbrev pub read_id : Moment → Id → V × Progress
  read_id m id = (value m.graph id, progress_at m)

  abbrev pub IsOne : Moment → B → Moment → Result Id Fault → Type 0
  IsOne old bind new r = Elabs old (λ home top. one bind home top (progress_at old)) read_id has new r

  abbrev pub IsNew : Moment → B → Rows Id → Result (Unit {0}) Fault → Type 0
  IsNew m bind rows r = (inner : Scope) → inner.home ≡ m.graph.home
      → Answers (new_label inner (name bind) (table_at value m.graph rows)) (λ u. tt) r

  abbrev pub IsBound : Moment → B → Rows Id → Rows Id → Moment → Result (Unit {0}) Fault → Type 0
  IsBound = RowBound name one value has

  abbrev pub AreBound : Moment → List B → Rows Id → Rows Id → Moment → Result (Unit {0}) Fault → Type 0
  AreBound = RowsBound name one value has

  abbrev label_of : B → Named V → List ℕ → Top → Answer (Unit {0})
  label_of bind made home top = new_label (core_scope home top) (name bind) made

  new_in : {m : Moment} (bind : B) (rows : Rows Id) (r : Result (Unit {0}) Fault) → IsNew m bind rows r
      → Elabs m (label_of bind (table_at value m.graph rows)) read_unit NoneOf m r
  new_in {m} bind rows r h = record {
    infers = h (core_scope m.graph.home (seen_at m)) refl;
    has = none_of m.graph r;
    goes = passes_top m m.top;
    left = same_left r m.top m.top refl;
  }

  abbrev one_of : B → Named V → Progress → List ℕ → Top → Unit {0} → Answer (Named V × Progress)
  one_of bind made st home top u =
      one bind home top st >>= λ r. gives (with_entry (name bind).text r.0 made, r.1)

  abbrev one_end : B → Named V → List ℕ → Top → V × Progress → Answer (Named V × Progress)
  one_end bind made home top r = gives (with_entry (name bind).text r.0 made, r.1)

  abbrev read_after : Rows Id → Moment → Unit {0} → Named V × Progress
  read_after after m u = (table_at value m.graph after, progress_at m)

  abbrev HasAfter : Rows Id → Graph → Unit {0} → Type 0
  HasAfter after g u = AllRows (has g) after

  refused : {m0 m1 : Moment} {want : List ℕ → Top → Answer (Named V × Progress)} {e : Fault} (after : Rows Id)
      → Elabs m0 want (read_after after) (HasAfter after) m1 (Err e) → BindsRows value has m0 want after m1 (Err e)
  refused after h = record { infers = h.infers; there = tt; goes = h.goes; left = tt }

  module _ {m0 : Moment} (bind : B) (before after : Rows Id) where
    pub bind_first : {e : Fault} → IsNew m0 bind before (Err e) → IsBound m0 bind before after m0 (Err e)
    bind_first {e} h = refused after (stops {told = read_after after} {got = HasAfter after} (one_of bind (table_at value m0.graph before) (progress_at m0))
        (new_in {m = m0} bind before (Err e) h))

    pub bind_second : {m1 : Moment} {e : Fault} → IsTopScope m0.graph m0.top → IsNew m0 bind before (Ok tt)
        → IsOne m0 bind m1 (Err e) → IsBound m0 bind before after m1 (Err e)
    bind_second {m1} {e} there h k =
        refused after (goes_on {told = read_after after} {got = HasAfter after} (one_of bind (table_at value m0.graph before) (progress_at m0)) there
        (new_in {m = m0} bind before (Ok tt) h) (stops (one_end bind (table_at value m0.graph before)) k))

    pub bind_memory : {m1 : Moment} {id : Id} → IsOne m0 bind m1 (Ok id)
        → IsBound m0 bind before after m1 (Err fault.NoMemory)
    bind_memory h = record { infers = tt; there = tt; goes = h.goes; left = tt }

    pub bind_done : {m1 : Moment} {id : Id} (text : List ℕ) → IsTopScope m0.graph m0.top → IsNew m0 bind before (Ok tt)
        → IsOne m0 bind m1 (Ok id) → AllRows (has m0.graph) before → text ≡ (name bind).text
        → after ≡ before ++ (text, id) ∷ [] → IsBound m0 bind before after m1 (Ok tt)
    bind_done {m1} {id} text there h k rows t e =
        let all = goes_on {told = read_after after} {got = HasAfter after} {r = Ok tt}
        (one_of bind (table_at value m0.graph before) (progress_at m0)) there (new_in {m = m0} bind before (Ok tt) h)
        (goes_on {told = read_after after} {got = HasAfter after} {r = Ok tt} (one_end bind (table_at value m0.graph before))
        there k
        (record {
          infers = ap (λ (z : Named V). gives {A = Named V × Progress} (z, progress_at m1))
              (ap (λ (z : Named V). with_entry (name bind).text (value m1.graph id) z)
              (sym (table_kept m0.graph m1.graph before k.goes.graph rows))
              ∙ sym (one_more (value m1.graph) before after (name bind).text text id t e []));
          has = rows_more (has m1.graph) before ((text, id) ∷ []) after e (k.has, tt)
              (rows_kept m0.graph m1.graph before k.goes.graph rows);
          goes = passes_top m1 m1.top;
          left = refl;
        })) in
        record { infers = all.infers; there = all.has; goes = all.goes; left = all.left }

  -- ---- one binding after another

  -- what was bound so far, and the bindings that are left
  pub record RowsSoFar (begun now : Moment) (binds left : List B) (before rows : Rows Id) : Type 0 where
    pub left_is : infer_bound name one binds (table_at value begun.graph before) begun.graph.home (seen_at begun)
        (progress_at begun)
        ≡ infer_bound name one left (table_at value now.graph rows) now.graph.home (seen_at now) (progress_at now)
    pub rows_there : AllRows (has now.graph) rows
    pub goes : Passes begun now
    pub stays : now.top ≡ begun.top
    pub there : IsTopScope now.graph now.top
    pub at : IsAtTop every now.graph.home (seen_at now) (progress_at now)
    pub bare : AreBare now.top.core

  pub rows_begin : (m : Moment) (binds : List B) (before : Rows Id) → IsReadyTop m → AllRows (has m.graph) before
      → RowsSoFar m m binds binds before before
  rows_begin m binds before r rows = record {
    left_is = refl;
    rows_there = rows;
    goes = passes_top m m.top;
    stays = refl;
    there = r.there;
    at = r.at;
    bare = r.bare;
  }

  pub rows_ready : {begun now : Moment} {binds left : List B} {before rows : Rows Id}
      → RowsSoFar begun now binds left before rows → IsKept now.table → IsReadyTop now
  rows_ready s k = record { there = s.there; kept = k; at = s.at; bare = s.bare }

  module _ {begun now : Moment} {binds left rest : List B} {bind : B} {before rows : Rows Id}
      (s : RowsSoFar begun now binds left before rows) (is : left ≡ bind ∷ rest) where
    rows_at : infer_bound name one binds (table_at value begun.graph before) begun.graph.home (seen_at begun)
        (progress_at begun)
        ≡ (infer_one bind (table_at value now.graph rows) now.graph.home (seen_at now) (progress_at now)
        >>= rest_of rest now.graph.home (seen_at now))
    rows_at = s.left_is
        ∙ ap (λ (z : List B). infer_bound name one z (table_at value now.graph rows) now.graph.home (seen_at now)
        (progress_at now)) is
        ∙ by_one bind rest (table_at value now.graph rows) now.graph.home (seen_at now) (progress_at now)

    pub rows_next : {mid : Moment} {more : Rows Id} → IsBound now bind rows more mid (Ok tt)
        → RowsSoFar begun mid binds rest before more
    rows_next {mid} {more} h = record {
      left_is = rows_at
          ∙ ap (λ (m : Answer (Named V × Progress)). m >>= rest_of rest now.graph.home (seen_at now)) h.infers
          ∙ ap (λ home. infer_bound name one rest (table_at value mid.graph more) home (seen_at now) (progress_at mid))
          (sym h.goes.home)
          ∙ ap (λ (top : Top). infer_bound name one rest (table_at value mid.graph more) mid.graph.home top
          (progress_at mid)) (sym (seen_kept {old = now} {new = mid} s.there h.goes h.left));
      rows_there = h.there;
      goes = passes_then {a = begun} {b = now} {c = mid} s.goes h.goes;
      stays = h.left ∙ s.stays;
      there = there_kept {old = now} {new = mid} s.there h.goes h.left;
      at = top_inside {old = now} {new = mid} s.there h.goes h.left
          (subst (Given (λ q. IsAtTop every now.graph.home (seen_at now) q.1)) h.infers
          (one_stays bind (table_at value now.graph rows) now.graph.home (seen_at now) (progress_at now) s.at));
      bare = bare_kept {old = now.top} {new = mid.top} s.bare h.left;
    }

    pub rows_fail : {mid : Moment} {more : Rows Id} {e : Fault} → IsBound now bind rows more mid (Err e)
        → AreBound begun binds before more mid (Err e)
    rows_fail {mid} {more} {e} h = record {
      infers = subst (λ (w : Answer (Named V × Progress)). Answers w (read_after more mid) (Err e)) (sym rows_at)
          (answers_stop (infer_one bind (table_at value now.graph rows) now.graph.home (seen_at now) (progress_at now))
          (rest_of rest now.graph.home (seen_at now)) (read_after more mid) (read_after more mid) e h.infers);
      there = tt;
      goes = passes_then {a = begun} {b = now} {c = mid} s.goes h.goes;
      left = tt;
    }

  pub rows_end : {begun now : Moment} {binds left : List B} {before rows : Rows Id}
      → RowsSoFar begun now binds left before rows → left ≡ [] → AreBound begun binds before rows now (Ok tt)
  rows_end {begun} {now} {binds} {left} {before} {rows} s is = record {
    infers = s.left_is ∙ ap (λ (z : List B). infer_bound name one z (table_at value now.graph rows) now.graph.home
        (seen_at now) (progress_at now)) is;
    there = s.rows_there;
    goes = s.goes;
    left = s.stays;
  }
