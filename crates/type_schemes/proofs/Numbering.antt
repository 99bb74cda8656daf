-- the variables that a type is closed over
use Rattle.std.proofs.Common.{◌≡◌, ℕ, zero, suc, ◌<◌, List, [], ◌∷◌, ◌++◌, length, refl, sym, ap, ap₂, ◌∙◌, Option, Some, None, Bool, true, false, cond, arith, slice_get, nat_eq}
use Rattle.std.proofs.lemmas.Bool.{eq-eqb, eqb-true, ltb-true}
use Rattle.std.specs.Option.{is_some}
use Rattle.std.specs.Prelude.{eqb, ltb, ◌||◌}
use Rattle.semantic_objects.specs.declared.name.TyId.{TyId}
use Rattle.semantic_objects.specs.declared.name.TyId.TheVariants as id
use Rattle.semantic_objects.specs.declared.symbol.Symbol.TheVariants as symbol
use Rattle.unification.specs.Types.{Ty, Types, occurs}
use Rattle.unification.specs.Closing.{is_among, place_of, found_in, found_in_all}
use Rattle.unification.proofs.Putting.{or_left, or_right, or_either, or_false_left, or_false_right, either_way}
use Rattle.unification.proofs.Closing.{found_all, found_only, found_same}
use Rattle.type_nodes.specs.Tables.{Table, whole, whole_all}
use Rattle.type_schemes.specs.declared.reach.Reached.{Reached}
use Rattle.type_schemes.specs.declared.number.Numbers.{Numbers}
use Rattle.type_schemes.specs.declared.kept.Kept.{Kept}
use Rattle.type_schemes.specs.Schemes.{is_kept, closed_variables, all_variables}
use Rattle.type_schemes.specs.Reaching.{place_in, variables_of, noticed_all, found, IsReached}
use Rattle.type_schemes.specs.Numbering.{number_of, is_reached, keeps, AreNumbers, HasAllVariables}
use Rattle.type_schemes.proofs.Noticing.{noticed_among, noticed_only}
use Rattle.type_schemes.proofs.Reaching.{IsSet, variable_among}

-- ---- one number more

same_truth : (b c : Bool) → (b ≡ true → c ≡ true) → (c ≡ true → b ≡ true) → b ≡ c
same_truth true c f g = sym (f refl)
same_truth false true f g = g refl
same_truth false false f g = refl

swapped : (m n : ℕ) → eqb m n ≡ eqb n m
swapped m n = same_truth (eqb m n) (eqb n m) (λ e. eq-eqb n m (sym (eqb-true m n e))) (λ e. eq-eqb m n (sym (eqb-true n m e)))

abbrev shifted : Option ℕ → Option ℕ
shifted None = None
shifted (Some n) = Some (suc n)

number_step : (b c : Bool) (p : ℕ)
    → cond (b || c) (Some (cond b zero (suc p))) None ≡ cond b (Some zero) (shifted (cond c (Some p) None))
number_step true c p = refl
number_step false true p = refl
number_step false false p = refl

number_cons : (v x : ℕ) (vs : List ℕ) → number_of v (x ∷ vs) ≡ cond (eqb v x) (Some zero) (shifted (number_of v vs))
number_cons v x vs = number_step (eqb v x) (is_among v vs) (place_of v vs)

-- a list with one variable more, which wasn't among them
pub number_more : (w v : ℕ) (vs : List ℕ) → is_among w vs ≡ false
    → number_of v (vs ++ w ∷ []) ≡ cond (eqb w v) (Some (length vs)) (number_of v vs)
number_more w v [] h = number_cons v w [] ∙ ap (λ b. cond b (Some 0) None) (swapped v w)
number_more w v (x ∷ vs) h =
    let other : eqb w x ≡ false = or_false_left (eqb w x) (is_among w vs) h in
    let rest : is_among w vs ≡ false = or_false_right (eqb w x) (is_among w vs) h in
    number_cons v x (vs ++ w ∷ [])
    ∙ ap (λ o. cond (eqb v x) (Some zero) (shifted o)) (number_more w v vs rest)
    ∙ either_way (eqb w v)
    (λ e. ap (λ b. cond (eqb v x) (Some zero) (shifted (cond b (Some (length vs)) (number_of v vs)))) e
    ∙ ap (λ b. cond b (Some zero) (Some (suc (length vs)))) (ap (λ z. eqb z x) (sym (eqb-true w v e)) ∙ other)
    ∙ sym (ap (λ b. cond b (Some (length (x ∷ vs))) (number_of v (x ∷ vs))) e))
    (λ e. ap (λ b. cond (eqb v x) (Some zero) (shifted (cond b (Some (length vs)) (number_of v vs)))) e
    ∙ sym (number_cons v x vs)
    ∙ sym (ap (λ b. cond b (Some (length (x ∷ vs))) (number_of v (x ∷ vs))) e))

no_number : (v : ℕ) (vs : List ℕ) → None ≡ number_of v vs → is_among v vs ≡ false
no_number v vs h = either_way (is_among v vs)
    (λ e. let k : None ≡ Some (place_of v vs) = h ∙ ap (λ b. cond b (Some (place_of v vs)) None) e in absurd (cc))
    (λ e. e)

pub numbers_more : (old new : Numbers) (w place : ℕ) → AreNumbers old → None ≡ number_of w old.variables → place ≡ length old.variables
    → new.variables ≡ old.variables ++ w ∷ [] → IsSet old.numbers new.numbers w place → AreNumbers new
numbers_more old new w place h none len variables set v = set v
    ∙ ap₂ (λ n o. cond (nat_eq w v) (Some n) o) len (h v)
    ∙ sym (number_more w v old.variables (no_number w old.variables none))
    ∙ sym (ap (number_of v) variables)

-- ---- which variables were reached

variable_at : {P : Type 0} (ids : List TyId) (v : ℕ) → is_among v (variables_of ids) ≡ true
    → ((p : ℕ) → slice_get ids p ≡ Some (id.Variable v) → P) → P
variable_at [] v h f = absurd (cc)
variable_at (id.Variable w ∷ ids) v h f = or_either (eqb v w) (is_among v (variables_of ids)) h
    (λ e. f 0 (ap (λ x. Some (id.Variable x)) (sym (eqb-true v w e))))
    (λ e. variable_at ids v e (λ p. f (suc p)))
variable_at (id.Made i ∷ ids) v h f = variable_at ids v h (λ p. f (suc p))

abbrev no_variable_kept : ℕ → Bool
no_variable_kept n = false

abbrev as_type : Types → Ty
as_type us = Ty.Made symbol.Arrow us

option_place : {P : Type 0} (o : Option ℕ) → is_some o ≡ true → ((p : ℕ) → o ≡ Some p → P) → P
option_place None h f = absurd (cc)
option_place (Some p) h f = f p refl

-- exactly those that stand in what the ids stand for
pub reached_is : (t : Table) (r : Reached) (ids : List TyId) → IsReached t r
    → ((kept : ℕ → Bool) → found kept r ≡ found_in_all kept (whole_all t ids) []) → (v : ℕ) → is_reached r v ≡ is_kept t ids v
reached_is t r ids h f v = same_truth (is_reached r v) (is_kept t ids v)
    (λ e. option_place (place_in r.variables v) e
    (λ p k. found_only (λ n. occurs n (as_type (whole_all t ids)) ≡ true) no_variable_kept (as_type (whole_all t ids)) []
    (λ n i. absurd (cc)) (λ n i j. i) v
    (sym (ap (is_among v) (f no_variable_kept))
    ∙ noticed_among no_variable_kept v refl (variables_of r.ids) [] (variable_among r.ids v p (h.variables v p k)))))
    (λ e. h.placed v (noticed_only no_variable_kept v (variables_of r.ids) []
    (ap (is_among v) (f no_variable_kept) ∙ found_all no_variable_kept v (as_type (whole_all t ids)) [] e refl)
    (λ i. i) (λ i. absurd (cc))))

-- those that are numbered are of the table
item_among : (vs : List ℕ) (i v : ℕ) → slice_get vs i ≡ Some v → is_among v vs ≡ true
item_among [] i v h = absurd (cc)
item_among (w ∷ vs) zero v h = (let e : v ≡ w = cc in or_left (eqb v w) (is_among v vs) (eq-eqb v w e))
item_among (w ∷ vs) (suc i) v h = or_right (eqb v w) (is_among v vs) (item_among vs i v h)

pub numbered_has : (t : Table) (r : Reached) (kept : ℕ → Bool) (vs : List ℕ) → IsReached t r
    → vs ≡ noticed_all kept (variables_of r.ids) [] → HasAllVariables t vs
numbered_has t r kept vs h e i v k =
    noticed_only kept v (variables_of r.ids) [] (sym (ap (is_among v) e) ∙ item_among vs i v k)
    (λ m. variable_at r.ids v m (λ p g. (h.ends p (id.Variable v) g).0))
    (λ m. absurd (cc))

-- those that a type is closed over
pub numbers_but : (t : Table) (r none : Reached) (kept : ℕ → Bool) (a : TyId) (vs : List ℕ) → none.ids ≡ []
    → ((k : ℕ → Bool) → found k r ≡ found_in k (whole t a) (found k none))
    → vs ≡ noticed_all kept (variables_of r.ids) [] → vs ≡ found_in kept (whole t a) []
numbers_but t r none kept a vs e g k = k ∙ g kept
    ∙ ap (λ z. found_in kept (whole t a) (noticed_all kept (variables_of z) [])) e

pub numbers_kept : (t : Table) (outer : Reached) (kept : ℕ → Bool) (ids : List TyId) (a : TyId) → IsReached t outer
    → ((k : ℕ → Bool) → found k outer ≡ found_in_all k (whole_all t ids) []) → ((v : ℕ) → kept v ≡ is_reached outer v)
    → found_in kept (whole t a) [] ≡ closed_variables t ids a
numbers_kept t outer kept ids a h f g =
    found_same kept (is_kept t ids) (whole t a) [] (λ n o. g n ∙ reached_is t outer ids h f n)

-- no variable is below none
below_none : (v : ℕ) → ltb v 0 ≡ false
below_none v = either_way (ltb v 0) (λ e. absurd (let l : v < 0 = ltb-true v 0 e in omega (arith, l))) (λ e. e)

pub keeps_some : (k : Kept) (v : ℕ) → k.older ≡ 0 → keeps k v ≡ is_some (place_in k.variables v)
keeps_some k v e = ap (λ b. b || is_some (place_in k.variables v)) (ap (ltb v) e ∙ below_none v)

pub keeps_none : (k : Kept) (v : ℕ) → k.older ≡ 0 → place_in k.variables v ≡ None → keeps k v ≡ false
keeps_none k v e f = keeps_some k v e ∙ ap is_some f

-- all variables
pub numbers_all : (t : Table) (r : Reached) (kept : ℕ → Bool) (ids : List TyId) (vs : List ℕ) → ((v : ℕ) → kept v ≡ false)
    → ((k : ℕ → Bool) → found k r ≡ found_in_all k (whole_all t ids) [])
    → vs ≡ noticed_all kept (variables_of r.ids) [] → vs ≡ all_variables t ids
numbers_all t r kept ids vs e f k = k ∙ f kept
    ∙ found_same kept no_variable_kept (as_type (whole_all t ids)) [] (λ n o. e n)
