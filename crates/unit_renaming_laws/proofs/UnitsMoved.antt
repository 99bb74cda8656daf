-- Declarations of the top level and units move with the variables.
use Rattle.std.proofs.Common.{◌≡◌, ℕ, List, [], ◌∷◌, refl, sym, ap, ap₂, ◌∙◌, subst, Bool}
use Rattle.semantic_objects.specs.Tables.{Table}
use Rattle.semantic_objects.specs.Environments.{Env, Signature, Functor, Top, empty_env}
use Rattle.static_semantics.specs.Inferring.{Progress}
use Rattle.static_semantics.specs.EnvironmentsPut.{each_entry, put_env}
use Rattle.unit_semantics.specs.UnitPhrases.{TopPhrase, read_unit}
use Rattle.unit_semantics.specs.UnitInference.{top_with, with_given, infer_structures, infer_signatures, infer_functors, infer_funsigs, infer_top, infer_tops, infer_unit}
use Rattle.renaming_laws.specs.Moved.{moved, AreMoved, Both, MovesIn}
use Rattle.renaming_laws.proofs.Answers.{moves_then}
use Rattle.renaming_laws.proofs.Environments.{each_with_all, put_modified}
use Rattle.unit_renaming_laws.specs.Moved.{put_signature, put_functor, put_top}
use Rattle.unit_renaming_laws.proofs.ModulesMoved.{top_of}
use Rattle.unit_renaming_laws.proofs.TopsMoved.{structures_moved, signatures_moved, functors_moved, funsigs_moved}

abbrev pub TopsMove : ℕ → Top × Progress → Top × Progress → Type 0
TopsMove k = MovesIn k (put_top (moved k))

abbrev of_parts : Env → Table Signature → Table Functor → Table Functor → Top
of_parts env signatures functors funsigs = top_of signatures functors funsigs env

pub parts_same : (e d : Env) (s t : Table Signature) (f g h l : Table Functor) → e ≡ d → s ≡ t → f ≡ g → h ≡ l
    → of_parts e s f h ≡ of_parts d t g l
parts_same e d s t f g h l i j m n =
    ap₂ (λ a b. of_parts a b f h) i j ∙ ap₂ (λ a b. of_parts d t a b) m n

with_moved : (k : ℕ) (top by : Top)
    → top_with (put_top (moved k) top) (put_top (moved k) by) ≡ put_top (moved k) (top_with top by)
with_moved k top by = parts_same _ _ _ _ _ _ _ _ (put_modified (moved k) top.env by.env)
    (each_with_all (put_signature (moved k)) by.signatures top.signatures)
    (each_with_all (put_functor (moved k)) by.functors top.functors)
    (each_with_all (put_functor (moved k)) by.funsigs top.funsigs)

given_moved : (k : ℕ) (basis : Env) (given : Top)
    → with_given (put_env (moved k) basis) (put_top (moved k) given) ≡ put_top (moved k) (with_given basis given)
given_moved k basis given =
    ap (top_of (each_entry (put_signature (moved k)) given.signatures)
    (each_entry (put_functor (moved k)) given.functors) (each_entry (put_functor (moved k)) given.funsigs))
    (put_modified (moved k) basis given.env)

top_moved : (k depth : ℕ) (home : List ℕ) (top : Top) (dec : TopPhrase) (st u : Progress) → AreMoved k st u
    → Both (TopsMove k) (infer_top depth home top dec st) (infer_top depth home (put_top (moved k) top) dec u)
top_moved k depth home top (TopPhrase.Structures binds at) st u h =
    moves_then k (put_env (moved k)) (TopsMove k) (infer_structures depth home top binds empty_env st)
    (infer_structures depth home (put_top (moved k) top) binds empty_env u) _ _
    (structures_moved k depth home top binds empty_env st u h) (λ r v w i. (refl, i))
top_moved k depth home top (TopPhrase.Signatures binds at) st u h =
    moves_then k (each_entry (put_signature (moved k))) (TopsMove k) (infer_signatures home top binds [] st)
    (infer_signatures home (put_top (moved k) top) binds [] u) _ _
    (signatures_moved k home top binds [] st u h) (λ r v w i. (refl, i))
top_moved k depth home top (TopPhrase.Functors binds at) st u h =
    moves_then k (each_entry (put_functor (moved k))) (TopsMove k) (infer_functors depth home top binds [] st)
    (infer_functors depth home (put_top (moved k) top) binds [] u) _ _
    (functors_moved k depth home top binds [] st u h) (λ r v w i. (refl, i))
top_moved k depth home top (TopPhrase.Funsigs binds at) st u h =
    moves_then k (each_entry (put_functor (moved k))) (TopsMove k) (infer_funsigs home top binds [] st)
    (infer_funsigs home (put_top (moved k) top) binds [] u) _ _
    (funsigs_moved k home top binds [] st u h) (λ r v w i. (refl, i))

tops_moved : (k depth : ℕ) (home : List ℕ) (top : Top) (decs : List TopPhrase) (st u : Progress) → AreMoved k st u
    → Both (TopsMove k) (infer_tops depth home top decs st) (infer_tops depth home (put_top (moved k) top) decs u)
tops_moved k depth home top [] st u h = (refl, h)
tops_moved k depth home top (dec ∷ decs) st u h =
    moves_then k (put_top (moved k)) (TopsMove k) (infer_top depth home top dec st)
    (infer_top depth home (put_top (moved k) top) dec u) _ _ (top_moved k depth home top dec st u h) (λ r v w i.
    moves_then k (put_top (moved k)) (TopsMove k) (infer_tops depth home (top_with top r) decs v)
    (infer_tops depth home (top_with (put_top (moved k) top) (put_top (moved k) r)) decs w) _ _
    (subst (λ z. Both (TopsMove k) (infer_tops depth home (top_with top r) decs v) (infer_tops depth home z decs w))
    (sym (with_moved k top r)) (tops_moved k depth home (top_with top r) decs v w i))
    (λ q x y j. (with_moved k r q, j)))

pub unit_moved : (k depth : ℕ) (home : List ℕ) (basis : Env) (given : Top) (sealing : Bool) (tops : List TopPhrase)
    (st u : Progress) → AreMoved k st u
    → Both (TopsMove k) (infer_unit depth home basis given sealing tops st)
    (infer_unit depth home (put_env (moved k) basis) (put_top (moved k) given) sealing tops u)
unit_moved k depth home basis given sealing tops st u h =
    subst (λ z. Both (TopsMove k) (infer_tops depth home (with_given basis given) (read_unit sealing tops) st)
    (infer_tops depth home z (read_unit sealing tops) u)) (sym (given_moved k basis given))
    (tops_moved k depth home (with_given basis given) (read_unit sealing tops) st u h)
