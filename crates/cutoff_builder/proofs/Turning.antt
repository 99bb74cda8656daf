-- One unit's turn, from what its steps give.
use Rattle.std.proofs.Common.{◌≡◌, ◌∙◌, sym, ap, subst, refl, inl, inr, ◌⊎◌, ℕ, List, [], ◌∷◌, ◌++◌, Option, Some, None, append-nil}
use Rattle.std.specs.Prelude.{Result, Ok, Err}
use Rattle.cm_base.specs.Files.{Files, told}
use Rattle.cm_base.specs.Fronts.{GrowsUpTo}
use Rattle.cm_base.specs.declared.diag.Diag.{Diag}
use Rattle.cm_base.specs.declared.record.BuiltUnit.{BuiltUnit}
use Rattle.cm_base.specs.declared.record.CompileInput.{CompileInput}
use Rattle.cm_base.specs.declared.record.Compiled.{Compiled}
use Rattle.cm_base.specs.declared.record.How.TheVariants as how
use Rattle.cm_base.specs.declared.record.PlannedUnit.{PlannedUnit}
use Rattle.cm_base.proofs.FrontLemmas.{grows_none}
use Rattle.build_laws.specs.CutBuild.{Turn, turn, turn_by, limited, compiled_turn}
use Rattle.build_laws.specs.Inputs.{givens_of, input_after, interface_bytes, built_unit}
use Rattle.build_laws.specs.PlainBuild.{PlainUnit, compiled_unit, unit_after}
use Rattle.build_laws.specs.Stale.{loaded_for}
use Rattle.build_laws.specs.Storing.{put_unit, IsSmallPlanned, IsStorable, StoresUnit}
use Rattle.build_laws.proofs.Leaving.{unit_answers}
use Rattle.build_laws.proofs.Made.{storable, short_givens}
use Rattle.cutoff_builder.specs.Answers.{as_compiled, Begun, BegunUnit, CompilesUnit, Turns, UnitAsked}
use Rattle.cutoff_builder.specs.declared.turn.UnitFault.{UnitFault}
use Rattle.cutoff_builder.specs.declared.turn.UnitFault.TheVariants as unit_stop

module _ (compiled : CompileInput → Result Compiled Diag) (bs : List BuiltUnit) (p : PlannedUnit) where
  -- a unit that the compiler made can be stored
  pub can_store : (u : BuiltUnit) → IsSmallPlanned p → as_compiled (unit_after compiled bs p) ≡ Ok u → IsStorable p u
  can_store u small is = by_answer (unit_after compiled bs p) refl is
    where
      by_answer : (r : Result PlainUnit Diag) → unit_after compiled bs p ≡ r → as_compiled r ≡ Ok u → IsStorable p u
      by_answer (Err d) gives is = cc
      by_answer (Ok v) gives is =
          let one = unit_answers (interface_bytes bs) (input_after bs p) (compiled (input_after bs p)) v gives in
          let same : compiled_unit v ≡ u = cc in
          subst (IsStorable p) (sym (ap (λ (i : CompileInput). built_unit i v.made) one.input_is) ∙ same)
          (storable (interface_bytes bs) p (givens_of bs p.wanted) v.made small (short_givens bs p.wanted small.each_wanted) one.fits)

  -- .. and has its unit's name
  pub has_name : (u : BuiltUnit) → as_compiled (unit_after compiled bs p) ≡ Ok u → p.unit ≡ u.unit
  has_name u is = by_answer (unit_after compiled bs p) refl is
    where
      by_answer : (r : Result PlainUnit Diag) → unit_after compiled bs p ≡ r → as_compiled r ≡ Ok u → p.unit ≡ u.unit
      by_answer (Err d) gives is = cc
      by_answer (Ok v) gives is =
          let one = unit_answers (interface_bytes bs) (input_after bs p) (compiled (input_after bs p)) v gives in
          let same : compiled_unit v ≡ u = cc in
          sym (ap (λ (i : CompileInput). i.unit) one.input_is) ∙ ap (λ (b : BuiltUnit). b.unit) same

  module _ (files : Files) (old new : Option Files) (asked now : List (List ℕ)) (tells : old ≡ Some files) where
    -- nothing was begun
    pub turns_folder : new ≡ old → now ≡ asked → Turns (Err unit_stop.Folder) (turn compiled files bs p) files new p asked now
    turns_folder same still =
        record { leaves = inl (same ∙ tells); asks = grows_none asked now (turn compiled files bs p).asked still }

    pub turns_memory : new ≡ old → now ≡ asked → Turns (Err unit_stop.NoMemory) (turn compiled files bs p) files new p asked now
    turns_memory same still =
        record { leaves = inl (same ∙ tells); asks = grows_none asked now (turn compiled files bs p).asked still }

    abbrev turn_with : Option BuiltUnit → Turn
    turn_with l = turn_by compiled files (interface_bytes bs) p (input_after bs p) l

    -- a unit that is loaded
    pub turns_loaded : (w u : BuiltUnit) → new ≡ old → now ≡ asked → loaded_for files (input_after bs p) ≡ Some w
        → limited (interface_bytes bs) w ≡ Ok u → Turns (Ok u) (turn compiled files bs p) files new p asked now
    turns_loaded w u same still is gives =
        subst (λ l. Turns (Ok u) (turn_with l) files new p asked now) (sym is)
        (record { leaves = (gives, same ∙ tells); asks = still ∙ sym (append-nil asked) })

    pub turns_refused : (w : BuiltUnit) (d : Diag) → new ≡ old → now ≡ asked → loaded_for files (input_after bs p) ≡ Some w
        → limited (interface_bytes bs) w ≡ Err d → Turns (Err (unit_stop.Diag d)) (turn compiled files bs p) files new p asked now
    turns_refused w d same still is gives =
        subst (λ l. Turns (Err (unit_stop.Diag d)) (turn_with l) files new p asked now) (sym is)
        (record { leaves = (gives, same ∙ tells); asks = still ∙ sym (append-nil asked) })

    -- a unit that is compiled
    compiled_gives : (r : Result PlainUnit Diag) (d : Diag) → as_compiled r ≡ Err d
        → ((compiled_turn files p r).gives ≡ Err d) × ((compiled_turn files p r).files ≡ files)
    compiled_gives (Err x) d is = let same : x ≡ d = cc in (ap Err same, refl)
    compiled_gives (Ok v) d is = cc

    compiled_done : (r : Result PlainUnit Diag) (u : BuiltUnit) → as_compiled r ≡ Ok u
        → ((compiled_turn files p r).gives ≡ Ok u) × ((compiled_turn files p r).files ≡ put_unit files p u) × (u.how ≡ how.Compiled)
    compiled_done (Err x) u is = cc
    compiled_done (Ok v) u is =
        let same : compiled_unit v ≡ u = cc in
        (ap Ok same, ap (put_unit files p) same, sym (ap (λ (b : BuiltUnit). b.how) same))

    compiled_asks : (r : Result PlainUnit Diag) → (compiled_turn files p r).asked ≡ p.unit ∷ []
    compiled_asks (Err x) = refl
    compiled_asks (Ok v) = refl

    turn_is : loaded_for files (input_after bs p) ≡ None → compiled_turn files p (unit_after compiled bs p) ≡ turn compiled files bs p
    turn_is is = sym (ap turn_with is)

    begun_or : (result : Result BuiltUnit UnitFault) → (new ≡ old) ⊎ BegunUnit (as_compiled (unit_after compiled bs p)) old new p
        → (new ≡ Some files) ⊎ Begun (compiled_turn files p (unit_after compiled bs p)) files new p
    begun_or result (inl same) = inl (same ∙ tells)
    begun_or result (inr begun) =
        let done = compiled_done (unit_after compiled bs p) begun.unit begun.gives in
        inr (record {
          unit = begun.unit;
          gives = done.0;
          came = done.2;
          stores = subst (λ o. StoresUnit o new p begun.unit) tells begun.stores;
        })

    pub turns_compiled : (result : Result BuiltUnit UnitFault) → loaded_for files (input_after bs p) ≡ None
        → CompilesUnit result (as_compiled (unit_after compiled bs p)) old new p → UnitAsked result asked now (p.unit ∷ [])
        → Turns result (turn compiled files bs p) files new p asked now
    turns_compiled result is compiles asks =
        subst (λ t. Turns result t files new p asked now) (turn_is is) (by_result result compiles asks)
      where
        by_result : (r : Result BuiltUnit UnitFault) → CompilesUnit r (as_compiled (unit_after compiled bs p)) old new p
            → UnitAsked r asked now (p.unit ∷ []) → Turns r (compiled_turn files p (unit_after compiled bs p)) files new p asked now
        by_result (Ok u) c a =
            let done = compiled_done (unit_after compiled bs p) u c.0 in
            record {
              leaves = (done.0, c.1 ∙ ap (told (λ (f : Files). put_unit f p u)) tells ∙ ap Some (sym done.1));
              asks = a ∙ ap (λ l. asked ++ l) (sym (compiled_asks (unit_after compiled bs p)));
            }
        by_result (Err (unit_stop.Diag d)) c a =
            let gives = compiled_gives (unit_after compiled bs p) d c.0 in
            record {
              leaves = (gives.0, c.1 ∙ tells ∙ ap Some (sym gives.1));
              asks = a ∙ ap (λ l. asked ++ l) (sym (compiled_asks (unit_after compiled bs p)));
            }
        by_result (Err unit_stop.Folder) c a = record {
          leaves = begun_or (Err unit_stop.Folder) c;
          asks = subst (GrowsUpTo asked now) (sym (compiled_asks (unit_after compiled bs p))) a;
        }
        by_result (Err unit_stop.NoMemory) c a = record {
          leaves = begun_or (Err unit_stop.NoMemory) c;
          asks = subst (GrowsUpTo asked now) (sym (compiled_asks (unit_after compiled bs p))) a;
        }
