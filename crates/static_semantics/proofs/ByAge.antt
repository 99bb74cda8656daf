-- A `val` closed by age gives what inference gives.
use Rattle.std.proofs.Common.{◌≡◌, ℕ, List, [], ◌∷◌, ◌++◌, refl, sym, ap, ap₂, ◌∙◌, Some, None, Bool, true, false, ◌||◌, cond}
use Rattle.std.specs.Prelude.{Ok, Err}
use Rattle.std.proofs.lemmas.Bool.{eq-eqb}
use Rattle.sml_trees.specs.declared.name.At.{At}
use Rattle.semantic_objects.specs.declared.entry.ValueEntry.{ValueEntry}
use Rattle.semantic_objects.specs.declared.entry.VidStatus.TheVariants as status
use Rattle.semantic_objects.specs.Trees.{TypeScheme}
use Rattle.semantic_objects.specs.Environments.{Env, empty_env, with_value}
use Rattle.unification.specs.Types.{Ty, State, put, occurs}
use Rattle.unification.specs.Closing.{kept_since, scheme_over}
use Rattle.unification.proofs.Closing.{found_same}
use Rattle.static_semantics.specs.Inferring.{Progress, Scope, with_written, Answer, ◌>>=◌, is_kept, free_in_env, Bound, under_bound, sized_dec}
use Rattle.static_semantics.specs.TypeInference.{as_written}
use Rattle.static_semantics.specs.CoreInference.{Group, own_variables, rec_bound, infer_rec_pats, rec_groups, closed_where, closed_variables, closed_groups, left_over, none_left, closed_val, infer_binds, infer_rec_exps}
use Rattle.static_semantics.specs.Promises.{ClosesByAge}
use Rattle.static_semantics.specs.Holding.{Given, AllItems, AllRows}
use Rattle.static_semantics.specs.Growing.{TyIn, Grows, IsReady}
use Rattle.static_semantics.proofs.Holding.{rows_more}
use Rattle.static_semantics.proofs.Growing.{grows_then, ready_later}
use Rattle.static_semantics.proofs.TypesGrow.{NumberIn, ListedIn, numbers_later}
use Rattle.static_semantics.proofs.CoreGrow.{own_grows, ready_written, ready_bound, GroupIn, GroupsIn, BindsIn, RecsIn, groups_later, recs_later, items_after, rec_pats_grow, rec_bound_in, rec_groups_in, binds_grow, rec_exps_grow}
use Rattle.static_semantics.proofs.Ages.{Any, Opened, ready_open, known_itself, kept_aged, aged_kept}

-- ---- what is kept

both_ways : (a b : Bool) → (a ≡ true → b ≡ true) → (b ≡ true → a ≡ true) → a ≡ b
both_ways true b h k = sym (h refl)
both_ways false true h k = k refl
both_ways false false h k = refl

-- two ways to tell what is kept agree on a variable
abbrev Agree : (ℕ → Bool) → (ℕ → Bool) → ℕ → Type 0
Agree kept aged n = kept n ≡ aged n

-- .. on each variable of a type as it is known
abbrev AgreeOn : (ℕ → Bool) → (ℕ → Bool) → State → Ty → Type 0
AgreeOn kept aged s ty = (n : ℕ) → occurs n (put s.stands ty) ≡ true → Agree kept aged n

agree_at : (sc : Scope) (st u : Progress) → IsReady Any sc st → Grows (Opened sc st.types) st u → (v : ℕ)
    → Opened sc st.types v → u.types.stands v ≡ Ty.Var v
    → Agree (is_kept sc u.types.stands) (kept_since st.types.next u.types.stands) v
agree_at sc st u h g v o e = both_ways (is_kept sc u.types.stands v) (kept_since st.types.next u.types.stands v)
    (kept_aged sc st u.types.stands v h.scope)
    (aged_kept sc st u v h.fit g o e)

agree_ty : (sc : Scope) (st u : Progress) → IsReady Any sc st → Grows (Opened sc st.types) st u → (ty : Ty)
    → TyIn (Opened sc st.types) u.types ty
    → AgreeOn (is_kept sc u.types.stands) (kept_since st.types.next u.types.stands) u.types ty
agree_ty sc st u h g ty k n e = agree_at sc st u h g n (k.within n e) (known_itself u.types n ty g.fit.settled e)

agree_number : (sc : Scope) (st u : Progress) → IsReady Any sc st → Grows (Opened sc st.types) st u → (n : ℕ)
    → NumberIn (Opened sc st.types) u.types n
    → Agree (is_kept sc u.types.stands) (kept_since st.types.next u.types.stands) n
agree_number sc st u h g n k =
    let e : u.types.stands n ≡ Ty.Var n = g.fit.settled.leaves.alone n k.rigid in
    agree_at sc st u h g n (k.ty.within n (ap (occurs n) e ∙ eq-eqb n n refl)) e

-- ---- closing

closed_same : (closes : Bool) (kept aged : ℕ → Bool) (s : State) (ty : Ty) → AgreeOn kept aged s ty
    → closed_where closes kept s ty ≡ closed_where closes aged s ty
closed_same true kept aged s ty h = ap (λ vs. scheme_over vs s.marks (put s.stands ty))
    (found_same kept aged (put s.stands ty) [] h)
closed_same false kept aged s ty h = refl

value_of : TypeScheme → ValueEntry
value_of σ = record { status = status.Variable; scheme = σ }

variables_same : (closes : Bool) (kept aged : ℕ → Bool) (s : State) (rows : Bound) (env : Env)
    → AllRows (AgreeOn kept aged s) rows
    → closed_variables closes kept s rows env ≡ closed_variables closes aged s rows env
variables_same closes kept aged s [] env h = refl
variables_same closes kept aged s (row ∷ rows) env h =
    ap (λ σ. closed_variables closes kept s rows
    (with_value row.0 (let value : ValueEntry = record { status = status.Variable; scheme = σ } in value) env))
    (closed_same closes kept aged s row.1 h.0)
    ∙ variables_same closes kept aged s rows
    (with_value row.0 (record { status = status.Variable; scheme = closed_where closes aged s row.1 }) env) h.1

groups_same : (kept aged : ℕ → Bool) (s : State) (groups : List Group) (env : Env)
    → AllItems (λ group. AllRows (AgreeOn kept aged s) group.1) groups
    → closed_groups kept s groups env ≡ closed_groups aged s groups env
groups_same kept aged s [] env h = refl
groups_same kept aged s (group ∷ groups) env h =
    ap (closed_groups kept s groups) (variables_same group.0 kept aged s group.1 env h.0)
    ∙ groups_same kept aged s groups (closed_variables group.0 aged s group.1 env) h.1

left_same : (kept aged : ℕ → Bool) (s : State) (made : Env) (own : List (List ℕ × ℕ)) → AllRows (Agree kept aged) own
    → left_over kept s made own ≡ left_over aged s made own
left_same kept aged s made [] h = refl
left_same kept aged s made (row ∷ rows) h = ap₂ (λ b o. cond (b || free_in_env row.1 s.stands made) (Some row.0) o) h.0
    (left_same kept aged s made rows h.1)

val_same : (sc : Scope) (at : At) (kept aged : ℕ → Bool) (own : List (List ℕ × ℕ)) (groups : List Group) (st : Progress)
    → AllItems (λ group. AllRows (AgreeOn kept aged st.types) group.1) groups → AllRows (Agree kept aged) own
    → closed_val sc at kept own groups st ≡ closed_val sc at aged own groups st
val_same sc at kept aged own groups st h k =
    ap (λ made. none_left sc at (made, st) (left_over kept st.types made own))
    (groups_same kept aged st.types groups empty_env h)
    ∙ ap (none_left sc at (closed_groups aged st.types groups empty_env, st))
    (left_same kept aged st.types (closed_groups aged st.types groups empty_env) own k)

-- ---- the whole declaration

chain_same : {A B : Type 0} (R : A → Type 0) (m : Answer A) (f g : A → Answer B) → Given R m
    → ((x : A) → R x → f x ≡ g x) → (m >>= f) ≡ (m >>= g)
chain_same R None f g h k = refl
chain_same R (Some (Err d)) f g h k = refl
chain_same R (Some (Ok x)) f g h k = k x h

items_rows : (P : ℕ → Type 0) (s : State) (Q : Ty → Type 0) (groups : List Group) → ((t : Ty) → TyIn P s t → Q t)
    → GroupsIn P s groups → AllItems (λ group. AllRows Q group.1) groups
items_rows P s Q [] f h = tt
items_rows P s Q (group ∷ groups) f h = (rows_more (TyIn P s) Q group.1 f h.0, items_rows P s Q groups f h.1)

pub closes_by_age : ClosesByAge
closes_by_age depth sc tyvars rules recs at st h =
    let P : ℕ → Type 0 = Opened sc st.types in
    let ready : IsReady P sc st = ready_open sc st h in
    chain_same (ListedIn P st) (own_variables sc tyvars rules recs st) _ _ (own_grows P sc tyvars rules recs st ready)
    (λ own k.
    let inner : Scope = with_written (as_written own.0) sc in
    let there : IsReady P inner own.1 = ready_written P own.0 sc own.1 k.1 (ready_later P sc st own.1 ready k.0) in
    chain_same (BindsIn P own.1) (infer_binds depth inner rules [] [] own.1) _ _
    (binds_grow P depth inner rules [] [] own.1 there tt tt)
    (λ b l.
    chain_same (RecsIn P b.2) (infer_rec_pats depth inner recs [] b.0 b.2) _ _
    (rec_pats_grow P depth inner recs [] b.0 b.2 (ready_later P inner own.1 b.2 there l.0) tt l.1)
    (λ p m.
    let g : Grows P own.1 p.1 = grows_then P own.1 b.2 p.1 l.0 m.0 in
    chain_same (Grows P p.1) (infer_rec_exps depth (under_bound (rec_bound p.0) inner) recs p.0 p.1) _ _
    (rec_exps_grow P depth (under_bound (rec_bound p.0) inner) recs p.0 p.1
    (ready_bound P (rec_bound p.0) inner p.1 (rec_bound_in P p.1.types p.0 m.1) (ready_later P inner own.1 p.1 there g))
    m.1)
    (λ u n.
    let f : Grows P own.1 u = grows_then P own.1 p.1 u g n in
    let whole : Grows P st u = grows_then P st own.1 u k.0 f in
    let kept : ℕ → Bool = is_kept sc u.types.stands in
    let aged : ℕ → Bool = kept_since st.types.next u.types.stands in
    let groups : List Group = b.1 ++ rec_groups sc.env recs p.0 in
    let all : GroupsIn P u.types groups = items_after (GroupIn P u.types) b.1 (rec_groups sc.env recs p.0)
    (groups_later P b.2 u b.1 (grows_then P b.2 p.1 u m.0 n) l.2)
    (rec_groups_in P u.types sc.env recs p.0 (recs_later P p.1 u p.0 n m.1)) in
    ap (λ made. made >>= λ r. sized_dec sc at r) (val_same sc at kept aged own.0 groups u
    (items_rows P u.types (AgreeOn kept aged u.types) groups (agree_ty sc st u h whole) all)
    (rows_more (NumberIn P u.types) (Agree kept aged) own.0 (agree_number sc st u h whole)
    (numbers_later P own.1 u own.0 f k.1)))))))
