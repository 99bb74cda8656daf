-- The bindings of a `val` have variables of their own: one that stands in the types of two of them is free around them.
use Rattle.std.proofs.Common.{◌≡◌, ℕ, ◌<◌, ◌≤◌, List, [], ◌∷◌, ◌++◌, refl, sym, ap, ◌∙◌, subst, arith, Bool, true, false, not, ◌||◌, ◌&&◌, inl, inr}
use Rattle.std.specs.Prelude.{◌⊎◌, ltb}
use Rattle.std.specs.List.{list_any}
use Rattle.std.proofs.lemmas.Bool.{eq-eqb, eqb-true, ltb-false}
use Rattle.semantic_objects.specs.Trees.{Tree}
use Rattle.semantic_objects.specs.Environments.{Env}
use Rattle.unification.specs.Types.{Ty, Types, Substitution, State, put, put_all, occurs, occurs_any}
use Rattle.unification.specs.Touching.{IsWithin, Touches}
use Rattle.unification.specs.Fitting.{IsFit}
use Rattle.unification.specs.Closing.{held_below}
use Rattle.unification.proofs.Walking.{either_way, or_either, or_left, or_right, and_left, and_right}
use Rattle.unification.proofs.Untouched.{put_changed}
use Rattle.unification.proofs.Filling.{put_fill}
use Rattle.unification.proofs.Fitting.{put_below}
use Rattle.bare_phrases.specs.Phrases.{PatPhrase, Rules}
use Rattle.static_semantics.specs.BasicTypes.{unit_ty}
use Rattle.static_semantics.specs.Inferring.{Progress, Scope, Answer, gives, unify_at, seen, bodies, Bound, free_in_env, free_in_written, is_kept}
use Rattle.static_semantics.specs.PatternInference.{pat_at, infer_pat}
use Rattle.static_semantics.specs.CoreInference.{Group, RecPats, added, is_variable, infer_exp, infer_binds, infer_rec_pats, rec_groups}
use Rattle.static_semantics.specs.Nonexpansive.{is_nonexpansive}
use Rattle.static_semantics.specs.Holding.{Given, AllItems, AllRows}
use Rattle.static_semantics.specs.Growing.{TyIn, SchemeIn, FunctionIn, Grows, IsReady}
use Rattle.static_semantics.proofs.Holding.{given_then, given_where, rows_more, env_more}
use Rattle.static_semantics.proofs.Growing.{grows_same, grows_then, ty_later, rows_later, ready_later, unify_grows}
use Rattle.static_semantics.proofs.TypesGrow.{given_more}
use Rattle.static_semantics.proofs.PatternsGrow.{PatIn, pat_grows}
use Rattle.static_semantics.proofs.CoreGrow.{ExpIn, exp_grows}
use Rattle.static_semantics.proofs.Ages.{Opened, is_open, Any, known_itself, ready_open, aged_kept}
use Rattle.elaboration_laws.proofs.Behind.{Behind, pat_behind}

-- ---- variables of types in which types are put

mutual
  occurs_from : (v : ℕ) (f : Substitution) (t : Ty) → occurs v (put f t) ≡ true
      → (m : ℕ) × (occurs m t ≡ true) × (occurs v (f m) ≡ true)
  occurs_from v f (Ty.Var n) e = (n, eq-eqb n n refl, e)
  occurs_from v f (Ty.Made c ts) e = any_from v f ts e

  any_from : (v : ℕ) (f : Substitution) (ts : Types) → occurs_any v (put_all f ts) ≡ true
      → (m : ℕ) × (occurs_any m ts ≡ true) × (occurs v (f m) ≡ true)
  any_from v f Types.Nil e = absurd (cc)
  any_from v f (Types.Cons t ts) e = or_either (occurs v (put f t)) (occurs_any v (put_all f ts)) e
      (λ i. let k = occurs_from v f t i in (k.0, or_left (occurs k.0 t) (occurs_any k.0 ts) k.1, k.2))
      (λ i. let k = any_from v f ts i in (k.0, or_right (occurs k.0 t) (occurs_any k.0 ts) k.1, k.2))

mutual
  occurs_put : (v m : ℕ) (f : Substitution) (t : Ty) → occurs m t ≡ true → occurs v (f m) ≡ true
      → occurs v (put f t) ≡ true
  occurs_put v m f (Ty.Var n) h e = subst (λ z. occurs v (f z) ≡ true) (eqb-true m n h) e
  occurs_put v m f (Ty.Made c ts) h e = any_put v m f ts h e

  any_put : (v m : ℕ) (f : Substitution) (ts : Types) → occurs_any m ts ≡ true → occurs v (f m) ≡ true
      → occurs_any v (put_all f ts) ≡ true
  any_put v m f Types.Nil h e = absurd (cc)
  any_put v m f (Types.Cons t ts) h e = or_either (occurs m t) (occurs_any m ts) h
      (λ i. or_left (occurs v (put f t)) (occurs_any v (put_all f ts)) (occurs_put v m f t i e))
      (λ i. or_right (occurs v (put f t)) (occurs_any v (put_all f ts)) (any_put v m f ts i e))

seen_put : (s : Substitution) (x : Tree) → seen s x ≡ put s (seen Ty.Var x)
seen_put s x = sym (put_fill s (λ i. unit_ty) Ty.Var x)

any_each : {A : Type 0} (first second : A → Bool) (xs : List A) → ((x : A) → first x ≡ true → second x ≡ true)
    → list_any first xs ≡ true → list_any second xs ≡ true
any_each first second [] k e = absurd (cc)
any_each first second (x ∷ xs) k e = or_either (first x) (list_any first xs) e
    (λ i. or_left (second x) (list_any second xs) (k x i))
    (λ i. or_right (second x) (list_any second xs) (any_each first second xs k i))

module _ (sc : Scope) where
  abbrev pub Kept : State → ℕ → Type 0
  Kept s v = is_kept sc s.stands v ≡ true

  abbrev Open : State → ℕ → Type 0
  Open s = Opened sc s

  -- ---- what is kept

  kept_moves : (st u : Progress) (g : Touches (Open st.types) st.types u.types) (x v : ℕ) → Kept st.types x
      → occurs v (g.change x) ≡ true → Kept u.types v
  kept_moves st u g x v h k = or_either (free_in_env x st.types.stands sc.env)
      (free_in_written x st.types.stands sc.written) h
      (λ e. or_left (free_in_env v u.types.stands sc.env) (free_in_written v u.types.stands sc.written)
      (any_each (λ tree. occurs x (seen st.types.stands tree)) (λ tree. occurs v (seen u.types.stands tree))
      (bodies sc.env)
      (λ tree i. subst (λ z. occurs v z ≡ true)
      (sym (seen_put u.types.stands tree ∙ put_changed (Open st.types) st.types u.types g (seen Ty.Var tree)))
      (occurs_put v x g.change (put st.types.stands (seen Ty.Var tree))
      (subst (λ z. occurs x z ≡ true) (seen_put st.types.stands tree) i) k)) e))
      (λ e. or_right (free_in_env v u.types.stands sc.env) (free_in_written v u.types.stands sc.written)
      (any_each (λ (row : List ℕ × Ty). occurs x (put st.types.stands row.1))
      (λ (row : List ℕ × Ty). occurs v (put u.types.stands row.1)) sc.written
      (λ row i. subst (λ z. occurs v z ≡ true)
      (sym (put_changed (Open st.types) st.types u.types g row.1))
      (occurs_put v x g.change (put st.types.stands row.1) i k)) e))

  -- an open variable is new, or kept
  open_is : (s : State) (v : ℕ) → Open s v → (s.next ≤ v) ⊎ Kept s v
  open_is s v h = or_either (not (ltb v s.next)) (is_kept sc s.stands v) h
      (λ e. either_way (ltb v s.next)
      (λ i. let k : false ≡ true = sym (ap not i) ∙ e in absurd (cc))
      (λ i. inl (ltb-false v s.next i)))
      (λ e. inr e)

  -- ---- types whose variables are between two numbers, or kept

  abbrev pub Between : ℕ → ℕ → State → ℕ → Type 0
  Between a b s v = ((a ≤ v) × (v < b)) ⊎ Kept s v

  abbrev pub Within : ℕ → ℕ → State → Ty → Type 0
  Within a b s t = IsWithin (Between a b s) (put s.stands t)

  not_open : (a b : ℕ) (st u : Progress) (g : Touches (Open st.types) st.types u.types) (x v : ℕ) → a ≤ x → x < b
      → b ≤ st.types.next → occurs v (g.change x) ≡ true → (c : Bool) → is_open sc st.types x ≡ c
      → Between a b u.types v
  not_open a b st u g x v h k l e true i = at (open_is st.types x i)
    where
      at : (st.types.next ≤ x) ⊎ Kept st.types x → Between a b u.types v
      at (inl j) = absurd (omega (arith, j, k, l))
      at (inr j) = inr (kept_moves st u g x v j e)
  not_open a b st u g x v h k l e false i =
      let same : g.change x ≡ Ty.Var x = g.outside x (λ j. let z : true ≡ false = sym j ∙ i in absurd (cc)) in
      let is : v ≡ x = eqb-true v x (subst (λ z. occurs v z ≡ true) same e) in
      inl (subst (λ z. a ≤ z) (sym is) h, subst (λ z. z < b) (sym is) k)

  -- they stay so while later phrases are inferred
  within_later : (a b : ℕ) (st u : Progress) (t : Ty) → Grows (Open st.types) st u → b ≤ st.types.next
      → Within a b st.types t → Within a b u.types t
  within_later a b st u t g l h v e =
      let touched : Touches (Open st.types) st.types u.types = g.touches in
      let from : (m : ℕ) × (occurs m (put st.types.stands t) ≡ true) × (occurs v (touched.change m) ≡ true) =
      occurs_from v touched.change (put st.types.stands t)
      (subst (λ z. occurs v z ≡ true) (put_changed (Open st.types) st.types u.types touched t) e) in
      at from.0 (h from.0 from.1) from.2
    where
      at : (x : ℕ) → Between a b st.types x → occurs v (g.touches.change x) ≡ true → Between a b u.types v
      at x (inl j) i = not_open a b st u g.touches x v j.0 j.1 l i (is_open sc st.types x) refl
      at x (inr j) i = inr (kept_moves st u g.touches x v j i)

  -- what a binding gives
  within_new : (st u : Progress) (t : Ty) → IsFit st.types → Grows (Open st.types) st u → TyIn (Open st.types) u.types t
      → Within st.types.next u.types.next u.types t
  within_new st u t fit g h v e = at (open_is st.types v (h.within v e))
    where
      below : v < u.types.next
      below = put_below u.types t g.fit h.below v e

      itself : u.types.stands v ≡ Ty.Var v
      itself = known_itself u.types v t g.fit.settled e

      at : (st.types.next ≤ v) ⊎ Kept st.types v → Between st.types.next u.types.next u.types v
      at (inl j) = inl (j, below)
      at (inr j) = by_age (ltb v st.types.next) refl
        where
          by_age : (c : Bool) → ltb v st.types.next ≡ c → Between st.types.next u.types.next u.types v
          by_age true i = inr (aged_kept sc st u v fit g (h.within v e) itself
              (or_left (ltb v st.types.next) (held_below st.types.next u.types.stands v) i))
          by_age false i = inl (ltb-false v st.types.next i, below)

  -- ---- bindings one after another

  abbrev pub GroupWithin : ℕ → ℕ → State → Group → Type 0
  GroupWithin a b s group = AllRows (Within a b s) group.1

  abbrev pub Chain : State → ℕ → List Group → ℕ → Type 0
  Chain s from [] to = from ≤ to
  Chain s from (group ∷ groups) to =
      (mid : ℕ) × (from ≤ mid) × GroupWithin from mid s group × Chain s mid groups to

  chain_bound : (s : State) (from : ℕ) (groups : List Group) (to : ℕ) → Chain s from groups to → from ≤ to
  chain_bound s from [] to h = h
  chain_bound s from (group ∷ groups) to h =
      let k : h.0 ≤ to = chain_bound s h.0 groups to h.3 in omega (arith, h.1, k)

  group_later : (a b : ℕ) (st u : Progress) (rows : Bound) → Grows (Open st.types) st u → b ≤ st.types.next
      → AllRows (Within a b st.types) rows → AllRows (Within a b u.types) rows
  group_later a b st u rows g l h = rows_more (Within a b st.types) (Within a b u.types) rows
      (λ t k. within_later a b st u t g l k) h

  pub chain_later : (st u : Progress) (from : ℕ) (groups : List Group) (to : ℕ) → Grows (Open st.types) st u
      → to ≤ st.types.next → Chain st.types from groups to → Chain u.types from groups to
  chain_later st u from [] to g l h = h
  chain_later st u from (group ∷ groups) to g l h =
      let below : h.0 ≤ to = chain_bound st.types h.0 groups to h.3 in (
        h.0,
        h.1,
        group_later from h.0 st u group.1 g (omega (arith, below, l)) h.2,
        chain_later st u h.0 groups to g l h.3,
      )

  chain_to : (s : State) (from : ℕ) (groups : List Group) (to more : ℕ) → Chain s from groups to → to ≤ more
      → (group : Group) → GroupWithin to more s group → Chain s from (groups ++ group ∷ []) more
  chain_to s from [] to more h l group k = (
    more,
    (let z : from ≤ more = omega (arith, h, l) in z),
    wider group.1 k,
    (let z : more ≤ more = omega arith in z),
  )
    where
      wider : (rows : Bound) → AllRows (Within to more s) rows → AllRows (Within from more s) rows
      wider rows i = rows_more (Within to more s) (Within from more s) rows (λ t j v e. at v (j v e)) i
        where
          at : (v : ℕ) → Between to more s v → Between from more s v
          at v (inl j) = inl (omega (arith, h, j.0), j.1)
          at v (inr j) = inr j
  chain_to s from (first ∷ groups) to more h l group k =
      (h.0, h.1, h.2, chain_to s h.0 groups to more h.3 l group k)

  -- ---- what a pattern and a binding make

  abbrev Ready : (ℕ → Type 0) → Progress → Type 0
  Ready P st = IsReady P sc st

  ready_any : (P : ℕ → Type 0) (st : Progress) → Ready P st → Ready Any st
  ready_any P st h =
      let any : (t : Ty) → TyIn P st.types t → TyIn Any st.types t =
      λ t k. record { below = k.below; within = λ n e. tt } in
      record {
        fit = h.fit;
        new = λ n l. tt;
        scope = record {
          env = env_more (SchemeIn P st.types) (SchemeIn Any st.types) (FunctionIn P st.types)
              (FunctionIn Any st.types)
              (λ σ k. record { closed = k.closed; body = any (seen Ty.Var σ.body) k.body })
              (λ function k. any (seen Ty.Var function.body) k) sc.env h.scope.env;
          written = rows_more (TyIn P st.types) (TyIn Any st.types) sc.written any h.scope.written;
        };
      }

  -- a pattern's own variables, behind those before
  abbrev OwnIn : (ℕ → Type 0) → Bound → Progress → Ty × Bound × Progress → Type 0
  OwnIn P bound st r = (own : Bound) × (r.1 ≡ bound ++ own) × PatIn P st (r.0, own, r.2)

  nothing_after : (xs : Bound) → xs ++ [] ≡ xs
  nothing_after [] = refl
  nothing_after (x ∷ xs) = ap (λ z. x ∷ z) (nothing_after xs)

  given_at : {A : Type 0} (R : A → Type 0) (m : Answer A) (x : A) → m ≡ gives x → Given R m → R x
  given_at R m x e h = subst (Given R) e h

  pat_own : (P : ℕ → Type 0) (depth : ℕ) (pat : PatPhrase) (bound : Bound) (st : Progress) → Ready P st
      → Given (OwnIn P bound st) (infer_pat depth sc pat bound st)
  pat_own P depth pat bound st h =
      given_more (Behind bound (infer_pat depth sc pat [] st)) (OwnIn P bound st) (infer_pat depth sc pat bound st)
      (λ r k. (
        k.0,
        k.2,
        given_at (PatIn P st) (infer_pat depth sc pat [] st) (r.0, k.0, r.2) k.1 (pat_grows P depth sc pat [] st h tt),
      ))
      (subst (λ z. Given (Behind bound (infer_pat depth sc pat [] st)) (infer_pat depth sc pat z st))
      (nothing_after bound) (pat_behind bound [] depth sc pat st))

  added_own : (bound own : Bound) → added bound (bound ++ own) ≡ own
  added_own [] own = refl
  added_own (row ∷ bound) own = added_own bound own

  rows_within : (st u : Progress) (rows : Bound) → IsFit st.types → Grows (Open st.types) st u
      → AllRows (TyIn (Open st.types) u.types) rows
      → AllRows (Within st.types.next u.types.next u.types) rows
  rows_within st u [] fit g h = tt
  rows_within st u (row ∷ rows) fit g h = (within_new st u row.1 fit g h.0, rows_within st u rows fit g h.1)

  -- ---- plain bindings

  abbrev Chained : ℕ → Bound × List Group × Progress → Type 0
  Chained from r = Chain r.2.types from r.1 r.2.types.next

  pub binds_chain : (depth : ℕ) (rules : Rules) (bound : Bound) (groups : List Group) (st : Progress) (from : ℕ)
      → Ready Any st → Chain st.types from groups st.types.next
      → Given (Chained from) (infer_binds depth sc rules bound groups st)
  binds_chain depth Rules.EndOfRules bound groups st from h c = c
  binds_chain depth (Rules.Rule pat exp rest) bound groups st from h c =
      let P : ℕ → Type 0 = Open st.types in
      let opened : Ready P st = ready_open sc st h in
      let Q : Bound × List Group × Progress → Type 0 = Chained from in
      given_then (OwnIn P bound st) Q (infer_pat depth sc pat bound st) _ (pat_own P depth pat bound st opened) (λ p i.
      let at_p : Ready P p.2 = ready_later P sc st p.2 opened i.2.0 in
      given_then (ExpIn P p.2) Q (infer_exp depth sc exp p.2) _ (exp_grows P depth sc exp p.2 at_p) (λ e j.
      given_then (Grows P e.1) Q (unify_at depth sc (pat_at pat) p.0 e.0 e.1) _
      (unify_grows P depth sc (pat_at pat) p.0 e.0 e.1 j.0.fit (ty_later P p.2 e.1 p.0 j.0 i.2.1) j.1) (λ u m.
      let after : Grows P p.2 u = grows_then P p.2 e.1 u j.0 m in
      let all : Grows P st u = grows_then P st p.2 u i.2.0 after in
      let group : Group = (is_nonexpansive sc.env exp, added bound p.1) in
      let own : AllRows (Within st.types.next u.types.next u.types) group.1 =
      subst (AllRows (Within st.types.next u.types.next u.types))
      (sym (ap (added bound) i.1 ∙ added_own bound i.0))
      (rows_within st u i.0 h.fit all (rows_later P p.2 u i.0 after i.2.2)) in
      binds_chain depth rest p.1 (groups ++ group ∷ []) u from (ready_any P u (ready_later P sc st u opened all))
      (chain_to u.types from groups st.types.next u.types.next
      (chain_later st u from groups st.types.next all (let z : st.types.next ≤ st.types.next = omega arith in z) c)
      all.later group own))))

  -- ---- `rec` bindings

  abbrev RowsIn : (ℕ → Type 0) → State → Ty × Bound → Type 0
  RowsIn P s row = TyIn P s row.0 × AllRows (TyIn P s) row.1

  recs_on : (P : ℕ → Type 0) (st u : Progress) (rows : RecPats) → Grows P st u → AllItems (RowsIn P st.types) rows
      → AllItems (RowsIn P u.types) rows
  recs_on P st u [] g h = tt
  recs_on P st u (row ∷ rows) g h =
      ((ty_later P st u row.0 g h.0.0, rows_later P st u row.1 g h.0.1), recs_on P st u rows g h.1)

  items_to : (R : Ty × Bound → Type 0) (rows : RecPats) (row : Ty × Bound) → AllItems R rows → R row
      → AllItems R (rows ++ row ∷ [])
  items_to R [] row h k = (k, tt)
  items_to R (first ∷ rows) row h k = (h.0, items_to R rows row h.1 k)

  abbrev pub RecsOwn : (ℕ → Type 0) → Progress → RecPats × Progress → Type 0
  RecsOwn P st r = Grows P st r.1 × AllItems (RowsIn P r.1.types) r.0

  pub rec_pats_own : (P : ℕ → Type 0) (depth : ℕ) (rules : Rules) (made : RecPats) (bound : Bound) (st : Progress)
      → Ready P st → AllItems (RowsIn P st.types) made
      → Given (RecsOwn P st) (infer_rec_pats depth sc rules made bound st)
  rec_pats_own P depth Rules.EndOfRules made bound st h k = (grows_same P st h.fit, k)
  rec_pats_own P depth (Rules.Rule pat exp rest) made bound st h k =
      given_then (OwnIn P bound st) (RecsOwn P st) (infer_pat depth sc pat bound st) _ (pat_own P depth pat bound st h)
      (λ p i.
      given_where (RecsOwn P st) (not (is_variable sc.env pat)) 34 sc (pat_at pat) _
      (given_more (RecsOwn P p.2) (RecsOwn P st)
      (infer_rec_pats depth sc rest (made ++ (p.0, added bound p.1) ∷ []) p.1 p.2)
      (λ r j. (grows_then P st p.2 r.1 i.2.0 j.0, j.1))
      (rec_pats_own P depth rest (made ++ (p.0, added bound p.1) ∷ []) p.1 p.2 (ready_later P sc st p.2 h i.2.0)
      (items_to (RowsIn P p.2.types) made (p.0, added bound p.1) (recs_on P st p.2 made i.2.0 k)
      (i.2.1, subst (AllRows (TyIn P p.2.types)) (sym (ap (added bound) i.1 ∙ added_own bound i.0)) i.2.2)))))

  pub rec_groups_within : (env : Env) (st u : Progress) (rules : Rules)
      (rows : RecPats) → IsFit st.types → Grows (Open st.types) st u → AllItems (RowsIn (Open st.types) u.types) rows
      → AllItems (GroupWithin st.types.next u.types.next u.types) (rec_groups env rules rows)
  rec_groups_within env st u Rules.EndOfRules rows fit g h = tt
  rec_groups_within env st u (Rules.Rule pat exp rest) [] fit g h = tt
  rec_groups_within env st u (Rules.Rule pat exp rest) (row ∷ rows) fit g h =
      (rows_within st u row.1 fit g h.0.1, rec_groups_within env st u rest rows fit g h.1)

  -- ---- variables of two groups

  -- whether a variable stands in the type of a variable that isn't closed
  abbrev row_holds : State → ℕ → Bound → Bool
  row_holds s v rows = list_any (λ (row : List ℕ × Ty). occurs v (put s.stands row.1)) rows

  abbrev pub open_in : State → ℕ → List Group → Bool
  open_in s v [] = false
  open_in s v (group ∷ groups) = (not group.0 && row_holds s v group.1) || open_in s v groups

  holds_within : (a b : ℕ) (s : State) (v : ℕ) (rows : Bound) → AllRows (Within a b s) rows
      → row_holds s v rows ≡ true → Between a b s v
  holds_within a b s v [] h e = absurd (cc)
  holds_within a b s v (row ∷ rows) h e = or_either (occurs v (put s.stands row.1)) (row_holds s v rows) e
      (λ i. h.0 v i) (λ i. holds_within a b s v rows h.1 i)

  -- it stands before a number, or from another one on, or is kept
  abbrev Outside : ℕ → ℕ → State → ℕ → Type 0
  Outside from to s v = ((v < from) ⊎ (to ≤ v)) ⊎ Kept s v

  open_between : (s : State) (from : ℕ) (groups : List Group) (to : ℕ) (v : ℕ) → Chain s from groups to
      → open_in s v groups ≡ true → Between from to s v
  open_between s from [] to v c e = absurd (cc)
  open_between s from (group ∷ groups) to v c e =
      let below : c.0 ≤ to = chain_bound s c.0 groups to c.3 in
      or_either (not group.0 && row_holds s v group.1) (open_in s v groups) e
      (λ i. first below (holds_within from c.0 s v group.1 c.2 (and_right (not group.0) (row_holds s v group.1) i)))
      (λ i. second (open_between s c.0 groups to v c.3 i))
    where
      first : c.0 ≤ to → Between from c.0 s v → Between from to s v
      first below (inl j) = inl (j.0, omega (arith, j.1, below))
      first below (inr j) = inr j

      second : Between c.0 to s v → Between from to s v
      second (inl j) = inl (omega (arith, j.0, c.1), j.1)
      second (inr j) = inr j

  -- variables of a closed type that stand in one that isn't are kept
  abbrev pub Apart : State → (ℕ → Type 0) → Group → Type 0
  Apart s Other group = group.0 ≡ true
      → AllRows (λ (t : Ty). (v : ℕ) → occurs v (put s.stands t) ≡ true → Other v → Kept s v) group.1

  meets : (s : State) (a b : ℕ) (v : ℕ) → Between a b s v → Outside a b s v → Kept s v
  meets s a b v (inl j) (inl (inl k)) = absurd (omega (arith, j.0, k))
  meets s a b v (inl j) (inl (inr k)) = absurd (omega (arith, j.1, k))
  meets s a b v (inl j) (inr k) = k
  meets s a b v (inr j) k = j

  rows_apart : (s : State) (a b : ℕ) (Other : ℕ → Type 0) (rows : Bound) → ((v : ℕ) → Other v → Outside a b s v)
      → AllRows (Within a b s) rows
      → AllRows (λ (t : Ty). (v : ℕ) → occurs v (put s.stands t) ≡ true → Other v → Kept s v) rows
  rows_apart s a b Other rows o h = rows_more (Within a b s)
      (λ (t : Ty). (v : ℕ) → occurs v (put s.stands t) ≡ true → Other v → Kept s v) rows
      (λ t k v e i. meets s a b v (k v e) (o v i)) h

  rows_fewer : (s : State) (First Second : ℕ → Type 0) (rows : Bound) → ((v : ℕ) → Second v → First v)
      → AllRows (λ (t : Ty). (v : ℕ) → occurs v (put s.stands t) ≡ true → First v → Kept s v) rows
      → AllRows (λ (t : Ty). (v : ℕ) → occurs v (put s.stands t) ≡ true → Second v → Kept s v) rows
  rows_fewer s First Second rows f h = rows_more
      (λ (t : Ty). (v : ℕ) → occurs v (put s.stands t) ≡ true → First v → Kept s v)
      (λ (t : Ty). (v : ℕ) → occurs v (put s.stands t) ≡ true → Second v → Kept s v) rows
      (λ t k v e i. k v e (f v i)) h

  groups_fewer : (s : State) (First Second : ℕ → Type 0) (groups : List Group) → ((v : ℕ) → Second v → First v)
      → AllItems (Apart s First) groups → AllItems (Apart s Second) groups
  groups_fewer s First Second [] f h = tt
  groups_fewer s First Second (group ∷ groups) f h =
      ((λ e. rows_fewer s First Second group.1 f (h.0 e)), groups_fewer s First Second groups f h.1)

  -- .. in those or in this group, which isn't closed
  abbrev MoreOf : (ℕ → Type 0) → State → Group → ℕ → Type 0
  MoreOf Other s group v = Other v ⊎ ((not group.0 && row_holds s v group.1) ≡ true)

  plain_apart : (s : State) (from : ℕ) (groups : List Group) (to : ℕ) (Other : ℕ → Type 0)
      → ((v : ℕ) → Other v → Outside from to s v) → Chain s from groups to
      → AllItems (Apart s (λ v. Other v ⊎ (open_in s v groups ≡ true))) groups
  plain_apart s from [] to Other o c = tt
  plain_apart s from (group ∷ groups) to Other o c =
      (head, tail (plain_apart s c.0 groups to (MoreOf Other s group) more c.3))
    where
      below : c.0 ≤ to
      below = chain_bound s c.0 groups to c.3

      wider : (v : ℕ) → Outside from to s v → Outside from c.0 s v
      wider v (inl (inl j)) = inl (inl j)
      wider v (inl (inr j)) = inl (inr (omega (arith, j, below)))
      wider v (inr j) = inr j

      behind : (v : ℕ) → Between c.0 to s v → Outside from c.0 s v
      behind v (inl j) = inl (inr j.0)
      behind v (inr j) = inr j

      others : group.0 ≡ true → (v : ℕ) → Other v ⊎ (open_in s v (group ∷ groups) ≡ true) → Outside from c.0 s v
      others e v (inl j) = wider v (o v j)
      others e v (inr j) = or_either (not group.0 && row_holds s v group.1) (open_in s v groups) j
          (λ i. let k : not group.0 ≡ true = and_left (not group.0) (row_holds s v group.1) i in absurd (cc))
          (λ i. behind v (open_between s c.0 groups to v c.3 i))

      head : Apart s (λ v. Other v ⊎ (open_in s v (group ∷ groups) ≡ true)) group
      head e = rows_apart s from c.0 (λ v. Other v ⊎ (open_in s v (group ∷ groups) ≡ true)) group.1 (others e) c.2

      later : (v : ℕ) → Outside from to s v → Outside c.0 to s v
      later v (inl (inl j)) = inl (inl (omega (arith, j, c.1)))
      later v (inl (inr j)) = inl (inr j)
      later v (inr j) = inr j

      before : (v : ℕ) → Between from c.0 s v → Outside c.0 to s v
      before v (inl j) = inl (inl j.1)
      before v (inr j) = inr j

      more : (v : ℕ) → MoreOf Other s group v → Outside c.0 to s v
      more v (inl j) = later v (o v j)
      more v (inr j) =
          before v (holds_within from c.0 s v group.1 c.2 (and_right (not group.0) (row_holds s v group.1) j))

      back : (v : ℕ) → Other v ⊎ (open_in s v (group ∷ groups) ≡ true) → MoreOf Other s group v ⊎ (open_in s v groups ≡ true)
      back v (inl j) = inl (inl j)
      back v (inr j) = or_either (not group.0 && row_holds s v group.1) (open_in s v groups) j
          (λ i. inl (inr i)) (λ i. inr i)

      tail : AllItems (Apart s (λ v. MoreOf Other s group v ⊎ (open_in s v groups ≡ true))) groups
          → AllItems (Apart s (λ v. Other v ⊎ (open_in s v (group ∷ groups) ≡ true))) groups
      tail i = groups_fewer s (λ v. MoreOf Other s group v ⊎ (open_in s v groups ≡ true))
          (λ v. Other v ⊎ (open_in s v (group ∷ groups) ≡ true)) groups back i

  -- ---- plain bindings and `rec` bindings

  rec_apart : (s : State) (from mid to : ℕ) (plain groups : List Group) → Chain s from plain mid
      → AllItems (GroupWithin mid to s) groups → AllItems (Apart s (λ v. open_in s v plain ≡ true)) groups
  rec_apart s from mid to plain [] c h = tt
  rec_apart s from mid to plain (group ∷ groups) c h = (
    (λ e. rows_apart s mid to (λ v. open_in s v plain ≡ true) group.1
        (λ v i. before v (open_between s from plain mid v c i)) h.0),
    rec_apart s from mid to plain groups c h.1,
  )
    where
      before : (v : ℕ) → Between from mid s v → Outside mid to s v
      before v (inl j) = inl (inl j.1)
      before v (inr j) = inr j

  none_open : (s : State) (v : ℕ) (groups : List Group) → AllItems (λ (group : Group). group.0 ≡ true) groups
      → open_in s v groups ≡ false
  none_open s v [] h = refl
  none_open s v (group ∷ groups) h =
      rw (h.0, none_open s v groups h.1)

  open_after : (s : State) (v : ℕ) (first second : List Group)
      → open_in s v (first ++ second) ≡ (open_in s v first || open_in s v second)
  open_after s v [] second = refl
  open_after s v (group ∷ first) second = ap (λ z. (not group.0 && row_holds s v group.1) || z)
      (open_after s v first second) ∙ grouped (not group.0 && row_holds s v group.1) (open_in s v first)
      (open_in s v second)
    where
      grouped : (a b c : Bool) → (a || (b || c)) ≡ ((a || b) || c)
      grouped true b c = refl
      grouped false b c = refl

  items_both : (R : Group → Type 0) (first second : List Group) → AllItems R first → AllItems R second
      → AllItems R (first ++ second)
  items_both R [] second h k = k
  items_both R (group ∷ first) second h k = (h.0, items_both R first second h.1 k)

  pub all_apart : (s : State) (from mid to : ℕ) (plain recs : List Group) → Chain s from plain mid
      → AllItems (GroupWithin mid to s) recs → AllItems (λ (group : Group). group.0 ≡ true) recs
      → AllItems (Apart s (λ v. open_in s v (plain ++ recs) ≡ true)) (plain ++ recs)
  all_apart s from mid to plain recs c h closed =
      items_both (Apart s (λ v. open_in s v (plain ++ recs) ≡ true)) plain recs
      (groups_fewer s (λ v. ⊥ ⊎ (open_in s v plain ≡ true)) (λ v. open_in s v (plain ++ recs) ≡ true) plain
      (λ v e. inr (in_plain v e)) (plain_apart s from plain mid (λ v. ⊥) (λ v i. absurd i) c))
      (groups_fewer s (λ v. open_in s v plain ≡ true) (λ v. open_in s v (plain ++ recs) ≡ true) recs in_plain
      (rec_apart s from mid to plain recs c h))
    where
      in_plain : (v : ℕ) → open_in s v (plain ++ recs) ≡ true → open_in s v plain ≡ true
      in_plain v e = or_either (open_in s v plain) (open_in s v recs) (sym (open_after s v plain recs) ∙ e) (λ i. i)
          (λ i. let k : false ≡ true = sym (none_open s v recs closed) ∙ i in absurd (cc))
