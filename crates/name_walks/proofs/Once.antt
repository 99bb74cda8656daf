-- Names and variables that are noted, each once.
use Rattle.std.proofs.Common.{◌≡◌, ℕ, List, [], ◌∷◌, ◌++◌, filter, refl, sym, ap, ◌∙◌, Bool, true, false, ◌||◌, not, cond, eqb}
use Rattle.std.proofs.lemmas.Bool.{eq-eqb, eqb-true}
use Rattle.std.proofs.lemmas.List.{append_assoc, append-nil}
use Rattle.semantic_objects.specs.declared.name.TyName.{TyName}
use Rattle.semantic_objects.specs.Symbols.{same_name}
use Rattle.semantic_objects.specs.Trees.{Tree, Trees}
use Rattle.unification.specs.Closing.{is_among, bound_in, bound_in_all}
use Rattle.unification.proofs.Walking.{either_way}
use Rattle.realisation.specs.Names.{is_listed, once}
use Rattle.realisation.proofs.Listing.{name_is, name_same}
use Rattle.type_walks.proofs.Keys.{turned}
use Rattle.name_walks.specs.Noting.{noted_all}
use Rattle.name_walks.specs.Visits.{variables_in, variables_in_all}
use Rattle.name_walks.proofs.Notes.{Tells, or_false, or_true, noted_append, listed_append, listed_same}

-- ---- what is told of names and of variables

pub tells_names : Tells same_name is_listed
tells_names = record {
  none = λ x. refl;
  more = λ x y ys. refl;
  is = name_is;
  itself = name_same;
}

pub tells_variables : Tells eqb is_among
tells_variables = record {
  none = λ x. refl;
  more = λ x y ys. refl;
  is = λ x y h. eqb-true x y h;
  itself = λ x. eq-eqb x x refl;
}

-- ---- names, each once

abbrev fresh : List TyName → TyName → Bool
fresh d m = not (is_listed m d)

abbrev other : TyName → TyName → Bool
other x m = not (same_name x m)

known_step : (d rs ss : List TyName) (m : TyName) (a : Bool) → (a ≡ true → is_listed m d ≡ true)
    → filter (fresh d) rs ≡ ss
    → filter (fresh d) (cond (not a) (m ∷ rs) rs) ≡ cond (not (is_listed m d)) (m ∷ ss) ss
known_step d rs ss m true f h = h ∙ sym (ap (λ b. cond (not b) (m ∷ ss) ss) (f refl))
known_step d rs ss m false f h = ap (λ z. cond (not (is_listed m d)) (m ∷ z) z) h

filter_known : (d ms : List TyName) (x : TyName) → is_listed x d ≡ true
    → filter (fresh d) (filter (other x) ms) ≡ filter (fresh d) ms
filter_known d [] x h = refl
filter_known d (m ∷ ms) x h = known_step d (filter (other x) ms) (filter (fresh d) ms) m (same_name x m)
    (λ e. listed_same same_name is_listed tells_names m x d h (turned m x ∙ e)) (filter_known d ms x h)

new_step : (d rs ss : List TyName) (m : TyName) (a c : Bool) → c ≡ (is_listed m d || a) → filter (fresh d) rs ≡ ss
    → filter (fresh d) (cond (not a) (m ∷ rs) rs) ≡ cond (not c) (m ∷ ss) ss
new_step d rs ss m true c e h = h ∙ sym (ap (λ b. cond (not b) (m ∷ ss) ss) (e ∙ or_true (is_listed m d)))
new_step d rs ss m false c e h = ap (λ z. cond (not (is_listed m d)) (m ∷ z) z) h
    ∙ ap (λ b. cond (not b) (m ∷ ss) ss) (sym (or_false (is_listed m d)) ∙ sym e)

filter_new : (d ms : List TyName) (x : TyName)
    → filter (fresh d) (filter (other x) ms) ≡ filter (fresh (d ++ x ∷ [])) ms
filter_new d [] x = refl
filter_new d (m ∷ ms) x = new_step d (filter (other x) ms) (filter (fresh (d ++ x ∷ [])) ms) m (same_name x m)
    (is_listed m (d ++ x ∷ []))
    (listed_append same_name is_listed tells_names m d (x ∷ [])
    ∙ ap (λ b. is_listed m d || b) (or_false (same_name m x) ∙ turned m x)) (filter_new d ms x)

noted_fresh : (d xs : List TyName) → noted_all is_listed d xs ≡ d ++ filter (fresh d) (once xs)
noted_fresh d [] = sym (append-nil d)
noted_fresh d (x ∷ xs) =
    let rest : List TyName = filter (other x) (once xs) in
    either_way (is_listed x d)
    (λ e. ap (λ b. noted_all is_listed (cond b d (d ++ x ∷ [])) xs) e
    ∙ noted_fresh d xs
    ∙ ap (λ z. d ++ z) (sym (filter_known d (once xs) x e))
    ∙ ap (λ b. d ++ cond (not b) (x ∷ filter (fresh d) rest) (filter (fresh d) rest)) (sym e))
    (λ e. ap (λ b. noted_all is_listed (cond b d (d ++ x ∷ [])) xs) e
    ∙ noted_fresh (d ++ x ∷ []) xs
    ∙ append_assoc d (x ∷ []) (filter (fresh (d ++ x ∷ [])) (once xs))
    ∙ ap (λ z. d ++ x ∷ z) (sym (filter_new d (once xs) x))
    ∙ ap (λ b. d ++ cond (not b) (x ∷ filter (fresh d) rest) (filter (fresh d) rest)) (sym e))

all_kept : (xs : List TyName) → filter (fresh []) xs ≡ xs
all_kept [] = refl
all_kept (x ∷ xs) = ap (λ z. x ∷ z) (all_kept xs)

pub noted_once : (xs : List TyName) → noted_all is_listed [] xs ≡ once xs
noted_once xs = noted_fresh [] xs ∙ all_kept (once xs)

-- ---- variables

mutual
  pub variables_noted : (t : Tree) (vs : List ℕ) → noted_all is_among vs (variables_in t) ≡ bound_in t vs
  variables_noted (Tree.Bound i) vs = refl
  variables_noted (Tree.Free n) vs = refl
  variables_noted (Tree.Made c ts) vs = all_variables_noted ts vs

  all_variables_noted : (ts : Trees) (vs : List ℕ) → noted_all is_among vs (variables_in_all ts) ≡ bound_in_all ts vs
  all_variables_noted Trees.Nil vs = refl
  all_variables_noted (Trees.Cons t ts) vs = noted_append is_among vs (variables_in t) (variables_in_all ts)
      ∙ ap (λ z. noted_all is_among z (variables_in_all ts)) (variables_noted t vs)
      ∙ all_variables_noted ts (bound_in t vs)
