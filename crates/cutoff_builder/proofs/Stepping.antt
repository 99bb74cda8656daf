-- The turn of one unit, or of none, as a build.
use Rattle.std.proofs.Common.{◌≡◌, ◌∙◌, sym, ap, subst, refl, inl, inr, ◌⊎◌, ℕ, List, [], ◌∷◌, ◌++◌, Option, Some, None, append-nil}
use Rattle.std.specs.Prelude.{Result, Ok, Err}
use Rattle.cm_base.specs.Files.{Files}
use Rattle.cm_base.specs.Fronts.{GrowsUpTo}
use Rattle.cm_base.specs.declared.diag.Diag.{Diag}
use Rattle.cm_base.specs.declared.record.BuiltUnit.{BuiltUnit}
use Rattle.cm_base.specs.declared.record.CompileInput.{CompileInput}
use Rattle.cm_base.specs.declared.record.Compiled.{Compiled}
use Rattle.cm_base.specs.declared.record.PlannedUnit.{PlannedUnit}
use Rattle.build_laws.specs.CutBuild.{Cut, turn, then_cut, cut_after}
use Rattle.build_laws.specs.Left.{NextUnit}
use Rattle.cutoff_builder.specs.Answers.{Begun, Steps, Turns}
use Rattle.cutoff_builder.specs.declared.turn.UnitFault.{UnitFault}
use Rattle.cutoff_builder.specs.declared.turn.UnitFault.TheVariants as unit_stop

module _ (compiled : CompileInput → Result Compiled Diag) (files : Files) (bs : List BuiltUnit) where
  -- no unit
  pub steps_none : (old new : Option Files) (asked now : List (List ℕ)) → old ≡ Some files → new ≡ old → now ≡ asked
      → Steps (Ok tt) compiled files [] bs bs (cut_after compiled files bs []) new asked now
  steps_none old new asked now tells same still = record {
    leaves = (refl, sym (append-nil bs), same ∙ tells);
    asks = still ∙ sym (append-nil asked);
  }

  module _ (p : PlannedUnit) (new : Option Files) (asked now : List (List ℕ)) where
    abbrev one : Cut
    one = cut_after compiled files bs (p ∷ [])

    one_done : (u : BuiltUnit) → (turn compiled files bs p).gives ≡ Ok u
        → one ≡ (let c : Cut = record {
          units = u ∷ [];
          ended = None;
          asked = (turn compiled files bs p).asked ++ [];
          files = (turn compiled files bs p).files;
        } in c)
    one_done u gives = ap (λ g. then_cut g (turn compiled files bs p).asked (turn compiled files bs p).files
        (λ v. cut_after compiled (turn compiled files bs p).files (bs ++ v ∷ []) [])) gives

    one_refused : (d : Diag) → (turn compiled files bs p).gives ≡ Err d
        → one ≡ (let c : Cut = record {
          units = [];
          ended = Some d;
          asked = (turn compiled files bs p).asked;
          files = (turn compiled files bs p).files;
        } in c)
    one_refused d gives = ap (λ g. then_cut g (turn compiled files bs p).asked (turn compiled files bs p).files
        (λ v. cut_after compiled (turn compiled files bs p).files (bs ++ v ∷ []) [])) gives

    asks_one : (g : Result BuiltUnit Diag) (l : List (List ℕ)) (after : Files)
        → (then_cut g l after (λ v. cut_after compiled after (bs ++ v ∷ []) [])).asked ≡ l
    asks_one (Ok u) l after = append-nil l
    asks_one (Err d) l after = refl

    its_asks : one.asked ≡ (turn compiled files bs p).asked
    its_asks = asks_one (turn compiled files bs p).gives (turn compiled files bs p).asked (turn compiled files bs p).files

    -- a unit that is done and added
    pub steps_done : (u : BuiltUnit) (after : List BuiltUnit) → Turns (Ok u) (turn compiled files bs p) files new p asked now
        → after ≡ bs ++ u ∷ [] → Steps (Ok tt) compiled files (p ∷ []) bs after one new asked now
    steps_done u after turns added =
        let c = one_done u turns.leaves.0 in
        record {
          leaves = (
            ap (λ (k : Cut). k.ended) c,
            added ∙ ap (λ (k : Cut). bs ++ k.units) (sym c),
            turns.leaves.1 ∙ ap (λ (k : Cut). Some k.files) (sym c),
          );
          asks = turns.asks ∙ ap (λ l. asked ++ l) (sym its_asks);
        }

    -- .. or for which there is no memory left
    pub steps_full : (u : BuiltUnit) (after : List BuiltUnit) → Turns (Ok u) (turn compiled files bs p) files new p asked now
        → Steps (Err unit_stop.NoMemory) compiled files (p ∷ []) bs after one new asked now
    steps_full u after turns =
        let c = one_done u turns.leaves.0 in
        record {
          leaves = inr (ap (λ (k : Cut). k.ended) c, turns.leaves.1 ∙ ap (λ (k : Cut). Some k.files) (sym c));
          asks = (one.asked, turns.asks ∙ ap (λ l. asked ++ l) (sym its_asks), ([], append-nil one.asked));
        }

    next_unit : Begun (turn compiled files bs p) files new p → NextUnit compiled bs files (p ∷ []) new
    next_unit begun = record {
      at = p;
      later = [];
      first = refl;
      unit = begun.unit;
      gives = begun.gives;
      came = begun.came;
      stores = begun.stores;
    }

    cut_off : (new ≡ Some files) ⊎ Begun (turn compiled files bs p) files new p
        → (new ≡ Some files) ⊎ NextUnit compiled bs files (p ∷ []) new
    cut_off (inl same) = inl same
    cut_off (inr begun) = inr (next_unit begun)

    pub steps_fault : (f : UnitFault) (after : List BuiltUnit) → after ≡ bs
        → Turns (Err f) (turn compiled files bs p) files new p asked now
        → Steps (Err f) compiled files (p ∷ []) bs after one new asked now
    steps_fault (unit_stop.Diag d) after same turns =
        let c = one_refused d turns.leaves.0 in
        record {
          leaves = (
            ap (λ (k : Cut). k.ended) c,
            same ∙ sym (append-nil bs) ∙ ap (λ (k : Cut). bs ++ k.units) (sym c),
            turns.leaves.1 ∙ ap (λ (k : Cut). Some k.files) (sym c),
          );
          asks = turns.asks ∙ ap (λ l. asked ++ l) (sym its_asks);
        }
    steps_fault unit_stop.Folder after same turns =
        record { leaves = cut_off turns.leaves; asks = subst (GrowsUpTo asked now) (sym its_asks) turns.asks }
    steps_fault unit_stop.NoMemory after same turns =
        record { leaves = inl (cut_off turns.leaves); asks = subst (GrowsUpTo asked now) (sym its_asks) turns.asks }
