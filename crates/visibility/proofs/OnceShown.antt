-- Exports that are shown once each.
use Rattle.std.proofs.Common.{◌≡◌, ◌∙◌, sym, ap, ap₂, refl, ℕ, ◌==◌, Bool, true, false, not, ◌&&◌, ◌||◌, cond, List, [], ◌∷◌, ◌++◌, append-nil, Option, Some, None}
use Rattle.std.proofs.Math.Path.{fun_ext}
use Rattle.std.specs.Prelude.{filter, option_to_list}
use Rattle.std.specs.List.{list_any}
use Rattle.std.proofs.lemmas.List.Elements.{filter-append}
use Rattle.std.proofs.lemmas.List.Folds.{list_any-append}
use Rattle.indexmap.specs.IndexSet.{IndexSet}
use Rattle.cm_conditions.proofs.TableSteps.{same_is}
use Rattle.cm_description.specs.declared.loaded.Export.{Export}
use Rattle.visibility.specs.Exports.{each_once, same_export}
use Rattle.visibility.specs.ShownOnce.{ShowsAll}
use Rattle.visibility.specs.Tables.{ShowsOnce, has_shown, same_shown, shown_of}
use Rattle.visibility.specs.declared.entries.Shown.{Shown}

push_by : (x e : Export) (once : List Export) (there same : Bool) → same_export x e ≡ same
    → x ∷ filter (λ y. not (same_export x y)) (cond there once (once ++ e ∷ []))
    ≡ cond (same || there) (x ∷ filter (λ y. not (same_export x y)) once)
    ((x ∷ filter (λ y. not (same_export x y)) once) ++ e ∷ [])
push_by x e once true true is = refl
push_by x e once true false is = refl
push_by x e once false true is =
    ap (λ l. x ∷ l) (filter-append (λ y. not (same_export x y)) once (e ∷ [])
    ∙ ap (λ b. filter (λ y. not (same_export x y)) once ++ cond (not b) (e ∷ []) []) is
    ∙ append-nil (filter (λ y. not (same_export x y)) once))
push_by x e once false false is =
    ap (λ l. x ∷ l) (filter-append (λ y. not (same_export x y)) once (e ∷ [])
    ∙ ap (λ b. filter (λ y. not (same_export x y)) once ++ cond (not b) (e ∷ []) []) is)

-- one more export, unless it stands there
pub once_push : (done : List Export) (e : Export)
    → each_once same_export (done ++ e ∷ [])
    ≡ cond (list_any (λ d. same_export d e) done) (each_once same_export done) (each_once same_export done ++ e ∷ [])
once_push [] e = refl
once_push (x ∷ done) e =
    ap (λ l. x ∷ filter (λ y. not (same_export x y)) l) (once_push done e)
    ∙ push_by x e (each_once same_export done) (list_any (λ d. same_export d e) done) (same_export x e) refl

-- exports are shown as one where they are one
shown_same : (d e : Export) → same_shown (shown_of d) (shown_of e) ≡ same_export d e
shown_same d e = ap (λ b. b && (d.unit == e.unit)) (same_is d.name e.name)

-- the exports so far are these, each once, and the set has them
pub record IsShown {S : Type 0} (set : IndexSet Shown S) (exports done : List Export) : Type 0 where
  pub once : exports ≡ each_once same_export done
  pub seen : (key : Shown) → has_shown set key ≡ list_any (λ d. same_shown (shown_of d) key) done

or_swap : (a b : Bool) → (a || b) ≡ (b || (a || false))
or_swap true true = refl
or_swap true false = refl
or_swap false true = refl
or_swap false false = refl

pub shown_more : {S : Type 0} (old new : IndexSet Shown S) (exports now done : List Export) (e : Export)
    → ShowsOnce old new exports now e → IsShown old exports done → IsShown new now (done ++ e ∷ [])
shown_more old new exports now done e shows is = record {
  once =
      shows.list
      ∙ ap₂ (λ b xs. cond b xs (xs ++ e ∷ []))
      (is.seen (shown_of e) ∙ ap (λ p. list_any p done) (fun_ext (λ d. shown_same d e))) is.once
      ∙ sym (once_push done e);
  seen = λ key.
      shows.set key
      ∙ ap (λ b. same_shown (shown_of e) key || b) (is.seen key)
      ∙ or_swap (same_shown (shown_of e) key) (list_any (λ d. same_shown (shown_of d) key) done)
      ∙ sym (list_any-append (λ d. same_shown (shown_of d) key) done (e ∷ []));
}

pub shown_all : {S : Type 0} (old new : IndexSet Shown S) (exports now done : List Export) (export : Option Export)
    → ShowsAll old new exports now export → IsShown old exports done → IsShown new now (done ++ option_to_list export)
shown_all old new exports now done None shows is = record {
  once = shows.1 ∙ is.once ∙ ap (each_once same_export) (sym (append-nil done));
  seen = λ key.
      ap (λ set. has_shown set key) shows.0
      ∙ is.seen key
      ∙ ap (list_any (λ d. same_shown (shown_of d) key)) (sym (append-nil done));
}
shown_all old new exports now done (Some e) shows is = shown_more old new exports now done e shows is
