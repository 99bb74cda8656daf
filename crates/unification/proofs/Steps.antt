-- What the small unifier's loops keep, and that its answer is most general.
use Rattle.std.proofs.Common.{◌≡◌, ℕ, zero, suc, ◌+◌, ◌<◌, ◌≤◌, refl, sym, ap, ap₂, ◌∙◌, subst, arith, Option, Some, None, Bool, true, false, ◌||◌, cond, List, [], ◌∷◌, ◌++◌, length, map, drop, get_or}
use Rattle.std.specs.Prelude.{Result, Ok, Err, eqb, slice_get}
use Rattle.std.proofs.lemmas.List.{append-nil, drop_more}
use Rattle.semantic_objects.specs.declared.symbol.Symbol.{Symbol}
use Rattle.semantic_objects.specs.Symbols.{same_symbol}
use Rattle.semantic_objects.proofs.Same.{symbol_is, symbol_same}
use Rattle.unification.specs.declared.plain.PlainType.{PlainType}
use Rattle.unification.specs.declared.plain.PlainType.TheOpen.{PlainType-F}
use Rattle.unification.specs.declared.plain.PlainType.TheFolds.{fold-roll-PlainType}
use Rattle.unification.specs.declared.plain.PlainType.TheVariants as plain
use Rattle.unification.specs.declared.plain.VariableKind.{VariableKind}
use Rattle.unification.specs.declared.plain.Binding.{Binding}
use Rattle.unification.specs.declared.unifier.Unifier.{Unifier}
use Rattle.unification.specs.declared.unifier.UnifyFault.{UnifyFault}
use Rattle.unification.specs.declared.unifier.UnifyFault.TheVariants as fault
use Rattle.unification.specs.Types.{Ty, Types, Substitution, Marks, State, put, put_all, marked, require_variable, require}
use Rattle.unification.specs.Unification.{Fault, Answer, single, bind, bound_where, assign, unify_step, unify_all, unify_in, depth, IsSettled, MakesEqual}
use Rattle.unification.specs.Plain.{type_level, type_of, types_of, variables_of, rigid_of, bound_by, marked_by, state_of, wanted_marks, Requires, Gives, GivesFor}
use Rattle.unification.proofs.Putting.{put-put, put_same, put_free}
use Rattle.unification.proofs.General.{most_general}

pub made_type : (c : Symbol) (ts : List PlainType) → type_of (plain.Made c ts) ≡ Ty.Made c (types_of (map type_of ts))
made_type c ts = ap type_of (sym (plain.rolls-Made c ts)) ∙ fold-roll-PlainType _ type_level (PlainType-F.Made c ts)

pub variable_type : (n : ℕ) → type_of (plain.Variable n) ≡ Ty.Var n
variable_type n = ap type_of (sym (plain.rolls-Variable n)) ∙ fold-roll-PlainType _ type_level (PlainType-F.Variable n)

-- ---- a type in place of a variable

pub put_types : (s : Substitution) (ts : List PlainType)
    → types_of (map (λ t. put s (type_of t)) ts) ≡ put_all s (types_of (map type_of ts))
put_types s [] = refl
put_types s (t ∷ ts) = ap (Types.Cons (put s (type_of t))) (put_types s ts)

pub drop_beyond : {A : Type 0} (i : ℕ) (xs : List A) → length xs ≤ i → drop i xs ≡ []
drop_beyond zero [] h = refl
drop_beyond zero (x ∷ xs) h = absurd (omega (arith, h))
drop_beyond (suc i) [] h = refl
drop_beyond (suc i) (x ∷ xs) h = drop_beyond i xs (omega (arith, h))

pub substituted_all : (s : Substitution) (new ts : List PlainType) (i : ℕ) → length ts ≤ i
    → map type_of new ++ map (λ t. put s (type_of t)) (drop i ts) ≡ map (λ t. put s (type_of t)) ts
    → types_of (map type_of new) ≡ put_all s (types_of (map type_of ts))
substituted_all s new ts i h e =
    ap types_of (sym (append-nil (map type_of new))
    ∙ ap (λ z. map type_of new ++ map (λ t. put s (type_of t)) z) (sym (drop_beyond i ts h)) ∙ e)
    ∙ put_types s ts

pub put_made : (s : Substitution) (c d : Symbol) (ts us : List PlainType) (x : PlainType) → x ≡ plain.Made c ts → d ≡ c
    → types_of (map type_of us) ≡ put_all s (types_of (map type_of ts)) → type_of (plain.Made d us) ≡ put s (type_of x)
put_made s c d ts us x e same h =
    made_type d us ∙ ap₂ Ty.Made same h ∙ sym (ap (put s) (ap type_of e ∙ made_type c ts))

pub put_here : (v n : ℕ) (to x : PlainType) → x ≡ plain.Variable n → eqb v n ≡ true
    → type_of to ≡ put (single v (type_of to)) (type_of x)
put_here v n to x e h =
    sym (ap (put (single v (type_of to))) (ap type_of e ∙ variable_type n) ∙ ap (λ b. cond b (type_of to) (Ty.Var n)) h)

pub put_there : (v n : ℕ) (to x : PlainType) → x ≡ plain.Variable n → eqb v n ≡ false
    → type_of (plain.Variable n) ≡ put (single v (type_of to)) (type_of x)
put_there v n to x e h =
    variable_type n
    ∙ sym (ap (put (single v (type_of to))) (ap type_of e ∙ variable_type n)
    ∙ ap (λ b. cond b (type_of to) (Ty.Var n)) h)

-- ---- what stands for variables after types were put in, one after another

pub bound_as : (bs : List Binding) (s : Substitution) (n : ℕ) → bound_by bs s n ≡ put (bound_by bs Ty.Var) (s n)
bound_as [] s n = sym (put_free (s n))
bound_as (b ∷ bs) s n =
    let one : Substitution = single b.variable (type_of b.to) in
    bound_as bs (bind b.variable (type_of b.to) s) n
    ∙ put-put (bound_by bs Ty.Var) one (s n)
    ∙ put_same (λ m. put (bound_by bs Ty.Var) (one m)) (bound_by (b ∷ bs) Ty.Var) (s n)
    (λ m. sym (bound_as bs (bind b.variable (type_of b.to) Ty.Var) m))

-- one more of them is put in
pub put_bound : (b : Binding) (bs : List Binding) (t : Ty)
    → put (bound_by (b ∷ bs) Ty.Var) t ≡ put (bound_by bs Ty.Var) (put (single b.variable (type_of b.to)) t)
put_bound b bs t =
    let one : Substitution = single b.variable (type_of b.to) in
    put_same (bound_by (b ∷ bs) Ty.Var) (λ m. put (bound_by bs Ty.Var) (one m)) t
    (λ m. bound_as bs (bind b.variable (type_of b.to) Ty.Var) m)
    ∙ sym (put-put (bound_by bs Ty.Var) one t)

pub bound_push : (bs : List Binding) (v : ℕ) (to : PlainType) (s : Substitution)
    → bound_by (bs ++ (let b : Binding = record { variable = v; to = to } in b) ∷ []) s
    ≡ bind v (type_of to) (bound_by bs s)
bound_push [] v to s = refl
bound_push (b ∷ bs) v to s = bound_push bs v to (bind b.variable (type_of b.to) s)

pub marked_push : (ns : List ℕ) (n : ℕ) (q : Marks) → marked_by (ns ++ n ∷ []) q ≡ marked n (marked_by ns q)
marked_push [] n q = refl
marked_push (m ∷ ns) n q = marked_push ns n (marked m q)

-- whether a number stands in a list
abbrev pub is_in : ℕ → List ℕ → Bool
is_in v [] = false
is_in v (n ∷ ns) = eqb n v || is_in v ns

or_moved : (a b c : Bool) → (a || (b || c)) ≡ ((b || a) || c)
or_moved true true c = refl
or_moved true false c = refl
or_moved false true c = refl
or_moved false false c = refl

pub marked_as : (ns : List ℕ) (q : Marks) (v : ℕ) → marked_by ns q v ≡ (is_in v ns || q v)
marked_as [] q v = refl
marked_as (n ∷ ns) q v = marked_as ns (marked n q) v ∙ or_moved (is_in v ns) (eqb n v) (q v)

-- ---- the state of the beginning

pub starts_settled : (kinds : List VariableKind) → IsSettled (variables_of kinds)
starts_settled kinds = record {
  solves = record { types = λ n. refl; marks = λ n k. k };
  leaves = record { alone = λ n k. refl; unmarked = λ n k l. l };
}

pub is_general : (kinds : List VariableKind) (a b : Ty) (result : Result Unifier UnifyFault)
    → Gives (unify_in depth a b (variables_of kinds)) result
    → GivesFor (MakesEqual a b) (variables_of kinds) result
is_general kinds a b (Ok u) h = most_general depth a b (variables_of kinds) (Ok (state_of u)) (starts_settled kinds) h
is_general kinds a b (Err fault.Clash) h =
    most_general depth a b (variables_of kinds) (Err Fault.Clash) (starts_settled kinds) h
is_general kinds a b (Err fault.Circular) h =
    most_general depth a b (variables_of kinds) (Err Fault.Circular) (starts_settled kinds) h
is_general kinds a b (Err fault.NotEquality) h =
    most_general depth a b (variables_of kinds) (Err Fault.NotEquality) (starts_settled kinds) h
is_general kinds a b (Err fault.NoMemory) h = tt

-- ---- what the calls answer

pub none_is : (o : Option VariableKind) (kinds : List VariableKind) (v : ℕ) → o ≡ slice_get kinds v → o ≡ None
    → false ≡ (variables_of kinds).rigid v
none_is o kinds v h e = sym (ap rigid_of (sym h ∙ e))

pub required_here : (rigid q : Marks) (old new : List ℕ) (n : ℕ) (x : PlainType) → x ≡ plain.Variable n
    → rigid n ≡ false → new ≡ old ++ n ∷ [] → require rigid (type_of x) (marked_by old q) ≡ Some (marked_by new q)
required_here rigid q old new n x e h k =
    ap (λ t. require rigid t (marked_by old q)) (ap type_of e ∙ variable_type n)
    ∙ ap (λ b. require_variable b (marked_by old q n) n (marked_by old q)) h
    ∙ ap Some (sym (ap (λ z. marked_by z q) k ∙ marked_push old n q))

-- what a test said
pub not_empty : {A : Type 0} (xs : List A) (r : Bool) → r ≡ eqb (length xs) 0 → r ≡ false → xs ≡ [] → ⊥
not_empty [] r h k e = let l : true ≡ false = sym h ∙ k in cc
not_empty (x ∷ xs) r h k e = absurd (cc)

pub required_true : (can : Bool) (want : Option Marks) (new : Marks) → can ≡ true → Requires can want new
    → want ≡ Some new
required_true true want new e h = h
required_true false want new e h = absurd (cc)

pub whole_step : (bs us : List Binding) (i : ℕ) (b : Binding) (whole new : PlainType) (t : Ty) → us ≡ bs
    → i < length us → b ≡ get_or us i b
    → type_of new ≡ put (single b.variable (type_of b.to)) (type_of whole)
    → put (bound_by (drop i bs) Ty.Var) (type_of whole) ≡ t
    → put (bound_by (drop (i + 1) bs) Ty.Var) (type_of new) ≡ t
whole_step bs us i b whole new t same below item is h =
    let d : drop i bs ≡ b ∷ drop (i + 1) bs =
    ap (drop i) (sym same) ∙ drop_more us i b below
    ∙ ap₂ (λ x y. x ∷ drop (i + 1) y) (sym item) same in
    ap (put (bound_by (drop (i + 1) bs) Ty.Var)) is
    ∙ sym (put_bound b (drop (i + 1) bs) (type_of whole))
    ∙ ap (λ z. put (bound_by z Ty.Var) (type_of whole)) (sym d) ∙ h

pub whole_done : (bs : List Binding) (i : ℕ) (whole : PlainType) (t : Ty) → length bs ≤ i
    → put (bound_by (drop i bs) Ty.Var) (type_of whole) ≡ t → type_of whole ≡ t
whole_done bs i whole t h e =
    sym (put_free (type_of whole)) ∙ ap (λ z. put (bound_by z Ty.Var) (type_of whole)) (sym (drop_beyond i bs h)) ∙ e

pub marked_done : (ns : List ℕ) (q : Marks) (v i : ℕ) (has : Bool) → length ns ≤ i
    → (is_in v (drop i ns) || has) ≡ (is_in v ns || q v) → has ≡ marked_by ns q v
marked_done ns q v i has h e =
    ap (λ z. is_in v z || has) (sym (drop_beyond i ns h)) ∙ e ∙ sym (marked_as ns q v)

states_are : (a b : ℕ) (s t : Substitution) (p q r u : Marks) → a ≡ b → s ≡ t → p ≡ q → r ≡ u
    → (let x : State = record { next = a; stands = s; marks = p; rigid = r } in x)
    ≡ (let y : State = record { next = b; stands = t; marks = q; rigid = u } in y)
states_are a b s t p q r u h i j k = cc

pub assigned_is : (v : ℕ) (t to : PlainType) (old mid new : Unifier) → mid.kinds ≡ old.kinds
    → mid.bindings ≡ old.bindings
    → wanted_marks (state_of old) v (type_of t) ≡ Some (state_of mid).marks → to ≡ t → new.kinds ≡ mid.kinds
    → new.marked ≡ mid.marked
    → new.bindings ≡ mid.bindings ++ (let b : Binding = record { variable = v; to = to } in b) ∷ []
    → assign v (type_of t) (state_of old) ≡ Ok (state_of new)
assigned_is v t to old mid new kinds bindings marks same nk nm nb =
    let stands : bound_by new.bindings Ty.Var ≡ bind v (type_of t) (bound_by old.bindings Ty.Var) =
    ap (λ z. bound_by z Ty.Var) nb ∙ bound_push mid.bindings v to Ty.Var
    ∙ ap₂ (λ x y. bind v (type_of x) (bound_by y Ty.Var)) same bindings in
    let all : new.kinds ≡ old.kinds = nk ∙ kinds in
    let marked : (state_of new).marks ≡ (state_of mid).marks =
    ap₂ (λ x y. marked_by x (variables_of y).marks) nm nk in
    ap (bound_where v (type_of t) (state_of old)) marks
    ∙ ap Ok (states_are (length old.kinds) (length new.kinds) (bind v (type_of t) (bound_by old.bindings Ty.Var))
    (bound_by new.bindings Ty.Var) (state_of mid).marks (state_of new).marks (variables_of old.kinds).rigid
    (variables_of new.kinds).rigid (sym (ap length all)) (sym stands) (sym marked)
    (sym (ap (λ z. (variables_of z).rigid) all)))

pub below_is : (deep d : ℕ) (a b : PlainType) (whole : PlainType) (s : State) → deep ≡ suc d
    → type_of whole ≡ put s.stands (type_of a)
    → unify_step (unify_in d) (type_of whole) (put s.stands (type_of b)) s ≡ unify_in deep (type_of a) (type_of b) s
below_is deep d a b whole s e h =
    ap (λ z. unify_step (unify_in d) z (put s.stands (type_of b)) s) h
    ∙ sym (ap (λ n. unify_in n (type_of a) (type_of b) s) e)

pub made_step : (deep : ℕ) (c d : Symbol) (ts us : List PlainType) (a b : PlainType) (s : State) → a ≡ plain.Made c ts
    → b ≡ plain.Made d us → c ≡ d
    → unify_all (unify_in deep) (types_of (map type_of ts)) (types_of (map type_of us)) s
    ≡ unify_step (unify_in deep) (type_of a) (type_of b) s
made_step deep c d ts us a b s e f same =
    sym (ap₂ (λ x y. unify_step (unify_in deep) x y s) (ap type_of e ∙ made_type c ts) (ap type_of f ∙ made_type d us)
    ∙ ap (λ z. cond z (unify_all (unify_in deep) (types_of (map type_of ts)) (types_of (map type_of us)) s)
    (Some (Err Fault.Clash))) (subst (λ z. same_symbol c z ≡ true) same (symbol_same c)))

not_same : (c d : Symbol) (r b : Bool) → same_symbol c d ≡ b → (c ≡ d → r ≡ true) → r ≡ false → b ≡ false
not_same c d r true e h k = let l : true ≡ false = sym (h (symbol_is c d e)) ∙ k in absurd (cc)
not_same c d r false e h k = refl

pub other_step : (deep : ℕ) (c d : Symbol) (ts us : List PlainType) (a b : PlainType) (s : State) (r : Bool)
    → a ≡ plain.Made c ts → b ≡ plain.Made d us → (c ≡ d → r ≡ true) → r ≡ false
    → unify_step (unify_in deep) (type_of a) (type_of b) s ≡ Some (Err Fault.Clash)
other_step deep c d ts us a b s r e f h k =
    ap₂ (λ x y. unify_step (unify_in deep) x y s) (ap type_of e ∙ made_type c ts) (ap type_of f ∙ made_type d us)
    ∙ ap (λ z. cond z (unify_all (unify_in deep) (types_of (map type_of ts)) (types_of (map type_of us)) s)
    (Some (Err Fault.Clash))) (not_same c d r (same_symbol c d) refl h k)

-- more types on the right than on the left
pub too_many : (deep i : ℕ) (ts others us : List PlainType) (s : State) (want : Answer) → length ts ≤ i
    → (others ≡ [] → ⊥)
    → unify_all (unify_in deep) (types_of (map type_of (drop i ts))) (types_of (map type_of others)) s ≡ want
    → want ≡ Some (Err Fault.Clash)
too_many deep i ts [] us s want h k e = absurd (k refl)
too_many deep i ts (x ∷ xs) us s want h k e =
    sym e ∙ ap (λ z. unify_all (unify_in deep) (types_of (map type_of z)) (types_of (map type_of (x ∷ xs))) s)
    (drop_beyond i ts h)
