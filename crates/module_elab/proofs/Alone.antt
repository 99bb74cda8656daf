-- A unit is inferred from anywhere as it is from where nothing was made.
use Rattle.std.proofs.Common.{◌≡◌, ℕ, List, sym, ap, ap₂, subst, Bool}
use Rattle.std.specs.Prelude.{Result, Ok, Err, Some, None}
use Rattle.cm_base.specs.declared.diag.Diag.{Diag}
use Rattle.cm_base.specs.declared.fault.Fault.{Fault}
use Rattle.cm_base.specs.declared.fault.Fault.TheVariants as fault
use Rattle.semantic_objects.specs.Environments.{Env, Top}
use Rattle.unification.specs.Fitting.{IsFit}
use Rattle.unification.specs.Unification.{depth}
use Rattle.unification.proofs.Fitting.{fit_nothing}
use Rattle.static_semantics.specs.Inferring.{Progress, Answer, ◌>>=◌, gives}
use Rattle.type_phrases.specs.Inferred.{Answers}
use Rattle.renaming_laws.specs.Moved.{Both}
use Rattle.unit_semantics.specs.UnitPhrases.{TopPhrase}
use Rattle.unit_semantics.specs.UnitInference.{infer_unit}
use Rattle.unit_semantics.specs.Promises.{IsClosedEnv, IsClosedTop}
use Rattle.unit_renaming_laws.specs.Promises.{DefinesSame}
use Rattle.unit_renaming_laws.proofs.Promised.{units_begin_anywhere}
use Rattle.module_elab.specs.Units.{nothing_made, unit_alone}

abbrev numbered : Top × Progress → Answer (Top × ℕ)
numbered q = gives (q.0, q.1.names)

given_same : (second : Answer (Top × Progress)) (q : Top × Progress) → Both DefinesSame (Some (Ok q)) second
    → (second >>= numbered) ≡ numbered q
given_same None q h = absurd h
given_same (Some (Err d)) q h = absurd h
given_same (Some (Ok y)) q h = ap₂ (λ (top : Top) (n : ℕ). gives {A = Top × ℕ} (top, n)) h.top h.names

refused_same : (second : Answer (Top × Progress)) (d : Diag) → Both DefinesSame (Some (Err d)) second
    → (second >>= numbered) ≡ Some (Err d)
refused_same None d h = absurd h
refused_same (Some (Err e)) d h = ap (λ (x : Diag). Some (Err x)) h
refused_same (Some (Ok y)) d h = absurd h

answers_same : {R : Type 0} (first second : Answer (Top × Progress)) (reads : R → Top × Progress) (r : Result R Fault)
    → Both DefinesSame first second → Answers first reads r
    → Answers (second >>= numbered) (λ x. ((reads x).0, (reads x).1.names)) r
answers_same first second reads (Ok x) h k =
    given_same second (reads x) (subst (λ (w : Answer (Top × Progress)). Both DefinesSame w second) k h)
answers_same first second reads (Err (fault.Diag d)) h k =
    refused_same second d (subst (λ (w : Answer (Top × Progress)). Both DefinesSame w second) k h)
answers_same first second reads (Err fault.NoMemory) h k = tt

-- where no type name was made and no type variable stands in what is in scope
pub unit_by_itself : {R : Type 0} (home : List ℕ) (basis : Env) (given : Top) (sealing : Bool) (tops : List TopPhrase)
    (st : Progress) (reads : R → Top × Progress) (r : Result R Fault) → IsClosedEnv basis → IsClosedTop given
    → IsFit st.types → st.names ≡ 0 → Answers (infer_unit depth home basis given sealing tops st) reads r
    → Answers (unit_alone home basis given sealing tops) (λ x. ((reads x).0, (reads x).1.names)) r
unit_by_itself home basis given sealing tops st reads r b g fit e h =
    answers_same (infer_unit depth home basis given sealing tops st)
    (infer_unit depth home basis given sealing tops nothing_made) reads r
    (units_begin_anywhere.unit depth home basis given sealing tops st nothing_made b g fit fit_nothing (sym e)) h
