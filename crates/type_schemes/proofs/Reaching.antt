-- what stands below ids
use Rattle.std.proofs.Common.{◌≡◌, ℕ, zero, suc, ◌+◌, ◌*◌, ◌<◌, ◌≤◌, List, [], ◌∷◌, ◌++◌, length, refl, sym, ap, ◌∙◌, subst, Option, Some, None, Bool, true, cond, arith, ◌⊎◌, inl, inr, slice_get, get_or, nat_eq}
use Rattle.std.proofs.lemmas.List.{append_assoc, append-nil}
use Rattle.std.proofs.lemmas.Bool.{eq-eqb, eqb-true}
use Rattle.std.proofs.lemmas.Option.{get_or_from_slice_get, slice_get_within, slice_get-get_or}
use Rattle.std.specs.Option.{is_some}
use Rattle.std.specs.Prelude.{eqb}
use Rattle.semantic_objects.specs.declared.name.TyId.{TyId}
use Rattle.semantic_objects.specs.declared.name.TyId.TheVariants as id
use Rattle.semantic_objects.specs.declared.symbol.Symbol.TheVariants as symbol
use Rattle.unification.specs.Types.{Ty, occurs, occurs_any, size, size_all}
use Rattle.unification.specs.Closing.{is_among, noticed, found_in, found_in_all}
use Rattle.unification.proofs.Putting.{or_left, or_right, or_either, either_way}
use Rattle.type_nodes.specs.declared.node.Node.{Node}
use Rattle.type_nodes.specs.Nodes.{AreMade}
use Rattle.type_nodes.specs.Tables.{Table, store_of, Has, IsEnd, whole, whole_all}
use Rattle.type_nodes.specs.Keeping.{IsKept}
use Rattle.type_nodes.proofs.Making.{id_more, get_snoc}
use Rattle.type_nodes.proofs.Binding.{node_whole}
use Rattle.type_schemes.specs.declared.places.Places.{Places}
use Rattle.type_schemes.specs.declared.reach.Reached.{Reached}
use Rattle.type_schemes.specs.declared.reach.Step.{Step}
use Rattle.type_schemes.specs.declared.reach.Step.TheVariants as step
use Rattle.type_schemes.specs.declared.heads.Heads.{Heads}
use Rattle.type_schemes.specs.Heads.{AreHeads, IsHeadOf}
use Rattle.type_schemes.specs.Schemes.{HaveAll}
use Rattle.type_schemes.specs.Reaching.{place_in, variables_of, noticed_all, found, IsPassed, AllPassed, IsReached, MayBePlaceOf, StepHas, StepsHave, found_by, found_after, weight, weights, entered, parts_at, IsOpened, StepTaken}
use Rattle.type_schemes.proofs.Items.{item_at}
use Rattle.type_schemes.proofs.Noticing.{noticed_more, among_both, among_snoc, noticed_among, finds_nothing}

-- ---- items of lists

pub get_more : {X : Type 0} (xs ys : List X) (i : ℕ) (x : X) → slice_get xs i ≡ Some x → slice_get (xs ++ ys) i ≡ Some x
get_more [] ys i x h = absurd (cc)
get_more (z ∷ xs) ys zero x h = h
get_more (z ∷ xs) ys (suc i) x h = get_more xs ys i x h

pub get_last : {X : Type 0} (xs : List X) (x : X) (i : ℕ) → i ≡ length xs → slice_get (xs ++ x ∷ []) i ≡ Some x
get_last [] x zero h = refl
get_last [] x (suc i) h = absurd (omega (arith, h))
get_last (z ∷ xs) x zero h = absurd (omega (arith, h))
get_last (z ∷ xs) x (suc i) h = get_last xs x i (let k : i ≡ length xs = omega (arith, h) in k)

pub some_same : {A : Type 0} (x y : A) → Some x ≡ Some y → x ≡ y
some_same x y h = cc

pub last_one : {P : Type 0} (p n : ℕ) → p < n + 1 → (p < n → P) → (p ≡ n → P) → P
last_one zero zero h f g = g refl
last_one zero (suc n) h f g = f (omega arith)
last_one (suc p) zero h f g = absurd (omega (arith, h))
last_one (suc p) (suc n) h f g = last_one p n (omega (arith, h)) (λ i. f (omega (arith, i))) (λ i. g (ap suc i))

variables_more : (xs ys : List TyId) → variables_of (xs ++ ys) ≡ variables_of xs ++ variables_of ys
variables_more [] ys = refl
variables_more (id.Variable v ∷ xs) ys = ap (λ z. v ∷ z) (variables_more xs ys)
variables_more (id.Made i ∷ xs) ys = variables_more xs ys

pub variable_among : (ids : List TyId) (v p : ℕ) → slice_get ids p ≡ Some (id.Variable v) → is_among v (variables_of ids) ≡ true
variable_among [] v p h = absurd (cc)
variable_among (id.Variable w ∷ ids) v zero h =
    let e : v ≡ w = cc in or_left (eqb v w) (is_among v (variables_of ids)) (eq-eqb v w e)
variable_among (id.Variable w ∷ ids) v (suc p) h =
    or_right (eqb v w) (is_among v (variables_of ids)) (variable_among ids v p h)
variable_among (id.Made i ∷ ids) v zero h = absurd (cc)
variable_among (id.Made i ∷ ids) v (suc p) h = variable_among ids v p h

-- ---- nothing was reached

pub reached_none : (t : Table) (r : Reached) → r.ids ≡ [] → ((n : ℕ) → place_in r.nodes n ≡ None)
    → ((n : ℕ) → place_in r.variables n ≡ None) → AreHeads t r.heads → IsReached t r
reached_none t r ids nodes variables heads = record {
  ends = λ p a e. absurd (let k : slice_get {X = TyId} [] p ≡ Some a = sym (ap (λ z. slice_get z p) ids) ∙ e in cc);
  nodes = λ i p e. absurd (let k : None ≡ Some p = sym (nodes i) ∙ e in cc);
  variables = λ v p e. absurd (let k : None ≡ Some p = sym (variables v) ∙ e in cc);
  passed = λ i p e. absurd (let k : None ≡ Some p = sym (nodes i) ∙ e in cc);
  placed = λ v e. absurd (let k : is_among v [] ≡ true = sym (ap (λ z. is_among v (variables_of z)) ids) ∙ e in cc);
  heads = heads;
}

-- ---- one more was reached

passed_more : (t : Table) (old new : Reached) (a b : TyId) → new.ids ≡ old.ids ++ b ∷ [] → IsPassed t old a → IsPassed t new a
passed_more t old new a b e h v k = ap (λ ids. is_among v (variables_of ids)) e
    ∙ ap (is_among v) (variables_more old.ids (b ∷ [])) ∙ among_both v (variables_of old.ids) (variables_of (b ∷ [])) (h v k)

ends_more : (t : Table) (old : Reached) (b : TyId) (p : ℕ) (a : TyId) → IsReached t old → Has t b × IsEnd t b
    → (slice_get old.ids p ≡ Some a) ⊎ ((p ≡ length old.ids) × (b ≡ a)) → Has t a × IsEnd t a
ends_more t old b p a h k (inl e) = h.ends p a e
ends_more t old b p a h k (inr e) = (subst (Has t) e.1 k.0, subst (IsEnd t) e.1 k.1)

-- where a place was set, and where it wasn't
pub set_or : {P : Type 0} (n m p place : ℕ) (before : Option ℕ) → cond (nat_eq n m) (Some place) before ≡ Some p
    → (n ≡ m → place ≡ p → P) → (before ≡ Some p → P) → P
set_or n m p place before h f g = either_way (nat_eq n m)
    (λ e. f (eqb-true n m e) (let k : Some place ≡ Some p = sym (ap (λ b. cond b (Some place) before) e) ∙ h in some_same place p k))
    (λ e. g (sym (ap (λ b. cond b (Some place) before) e) ∙ h))

pub set_some : (n m place : ℕ) (before : Option ℕ) → is_some before ≡ true → is_some (cond (nat_eq n m) (Some place) before) ≡ true
set_some n m place before h = either_way (nat_eq n m)
    (λ e. ap (λ b. is_some (cond b (Some place) before)) e)
    (λ e. ap (λ b. is_some (cond b (Some place) before)) e ∙ h)

pub set_it : (n place : ℕ) (before : Option ℕ) → is_some (cond (nat_eq n n) (Some place) before) ≡ true
set_it n place before = ap (λ b. is_some (cond b (Some place) before)) (eq-eqb n n refl)

abbrev pub IsSet : Places → Places → ℕ → ℕ → Type 0
IsSet old new n place = (m : ℕ) → place_in new m ≡ cond (nat_eq n m) (Some place) (place_in old m)

pub reached_variable : (t : Table) (old new : Reached) (v place : ℕ) → IsReached t old → Has t (id.Variable v) → IsEnd t (id.Variable v)
    → place ≡ length old.ids → new.ids ≡ old.ids ++ id.Variable v ∷ [] → new.nodes ≡ old.nodes
    → IsSet old.variables new.variables v place → new.heads ≡ old.heads → IsReached t new
reached_variable t old new v place h has end len ids nodes set heads = record {
  ends = λ p a e. ends_more t old (id.Variable v) p a h (has, end)
      (get_snoc old.ids (id.Variable v) a p (sym (ap (λ z. slice_get z p) ids) ∙ e));
  nodes = λ i p e. ap (λ z. slice_get z p) ids
      ∙ get_more old.ids (id.Variable v ∷ []) p (id.Made i) (h.nodes i p (sym (ap (λ z. place_in z i) nodes) ∙ e));
  variables = λ w p e. ap (λ z. slice_get z p) ids ∙ set_or v w p place (place_in old.variables w) (sym (set w) ∙ e)
      (λ k l. ap (λ x. slice_get (old.ids ++ id.Variable v ∷ []) x) (sym l)
      ∙ get_last old.ids (id.Variable v) place len ∙ ap (λ x. Some (id.Variable x)) k)
      (λ k. get_more old.ids (id.Variable v ∷ []) p (id.Variable w) (h.variables w p k));
  passed = λ i p e. passed_more t old new (id.Made i) (id.Variable v) ids (h.passed i p (sym (ap (λ z. place_in z i) nodes) ∙ e));
  placed = λ w e. ap is_some (set w) ∙ among_snoc w v (variables_of old.ids)
      (sym (ap (λ z. is_among w (variables_of z)) ids ∙ ap (is_among w) (variables_more old.ids (id.Variable v ∷ []))) ∙ e)
      (λ k. set_some v w place (place_in old.variables w) (h.placed w k))
      (λ k. subst (λ x. is_some (cond (nat_eq v x) (Some place) (place_in old.variables x)) ≡ true) (sym k)
      (set_it v place (place_in old.variables v)));
  heads = subst (AreHeads t) (sym heads) h.heads;
}

pub reached_node : (t : Table) (old new : Reached) (i place : ℕ) → IsReached t old → i < length t.nodes → IsPassed t old (id.Made i)
    → place ≡ length old.ids → new.ids ≡ old.ids ++ id.Made i ∷ [] → new.variables ≡ old.variables
    → IsSet old.nodes new.nodes i place → new.heads ≡ old.heads → IsReached t new
reached_node t old new i place h has pass len ids variables set heads = record {
  ends = λ p a e. ends_more t old (id.Made i) p a h (has, tt)
      (get_snoc old.ids (id.Made i) a p (sym (ap (λ z. slice_get z p) ids) ∙ e));
  nodes = λ j p e. ap (λ z. slice_get z p) ids ∙ set_or i j p place (place_in old.nodes j) (sym (set j) ∙ e)
      (λ k l. ap (λ x. slice_get (old.ids ++ id.Made i ∷ []) x) (sym l)
      ∙ get_last old.ids (id.Made i) place len ∙ ap (λ x. Some (id.Made x)) k)
      (λ k. get_more old.ids (id.Made i ∷ []) p (id.Made j) (h.nodes j p k));
  variables = λ w p e. ap (λ z. slice_get z p) ids
      ∙ get_more old.ids (id.Made i ∷ []) p (id.Variable w) (h.variables w p (sym (ap (λ z. place_in z w) variables) ∙ e));
  passed = λ j p e. passed_more t old new (id.Made j) (id.Made i) ids
      (set_or i j p place (place_in old.nodes j) (sym (set j) ∙ e) (λ k l. subst (λ x. IsPassed t old (id.Made x)) k pass) (h.passed j p));
  placed = λ w e. ap (λ z. is_some (place_in z w)) variables ∙ h.placed w
      (sym (ap (λ z. is_among w (variables_of z)) ids ∙ ap (is_among w) (variables_more old.ids (id.Made i ∷ [])
      ∙ append-nil (variables_of old.ids))) ∙ e);
  heads = subst (AreHeads t) (sym heads) h.heads;
}

-- only what is known of variables is another
pub reached_heads : (t : Table) (old : Reached) (heads : Heads) → IsReached t old → AreHeads t heads
    → IsReached t (record { ids = old.ids; nodes = old.nodes; variables = old.variables; heads = heads })
reached_heads t old heads h k = record {
  ends = h.ends;
  nodes = h.nodes;
  variables = h.variables;
  passed = h.passed;
  placed = h.placed;
  heads = k;
}

-- what is found then
pub found_variable : (old new : Reached) (v : ℕ) → new.ids ≡ old.ids ++ id.Variable v ∷ [] → (kept : ℕ → Bool)
    → found kept new ≡ noticed (kept v) v (found kept old)
found_variable old new v e kept = ap (λ ids. noticed_all kept (variables_of ids) []) e
    ∙ ap (λ ns. noticed_all kept ns []) (variables_more old.ids (id.Variable v ∷ []))
    ∙ noticed_more kept (variables_of old.ids) (v ∷ []) []

pub found_node : (old new : Reached) (i : ℕ) → new.ids ≡ old.ids ++ id.Made i ∷ [] → (kept : ℕ → Bool)
    → found kept new ≡ found kept old
found_node old new i e kept = ap (λ ids. noticed_all kept (variables_of ids) []) e
    ∙ ap (λ ns. noticed_all kept ns []) (variables_more old.ids (id.Made i ∷ []) ∙ append-nil (variables_of old.ids))

-- a type that was passed finds nothing more
pub found_passed : (t : Table) (r : Reached) (a : TyId) → IsPassed t r a → (kept : ℕ → Bool)
    → found_in kept (whole t a) (found kept r) ≡ found kept r
found_passed t r a h kept = finds_nothing kept (whole t a) (found kept r)
    (λ n e free. noticed_among kept n free (variables_of r.ids) [] (h n e))

-- ---- places

variable_passed : (t : Table) (r : Reached) (a : TyId) (v p : ℕ) → IsReached t r → place_in r.variables v ≡ Some p
    → whole t a ≡ Ty.Var v → IsPassed t r a
variable_passed t r a v p h e k w o =
    let i : w ≡ v = eqb-true w v (sym (ap (occurs w) k) ∙ o) in
    subst (λ x. is_among x (variables_of r.ids) ≡ true) (sym i) (variable_among r.ids v p (h.variables v p e))

pub place_variable : (t : Table) (r : Reached) (a : TyId) (v : ℕ) (o : Option ℕ) → IsReached t r → o ≡ place_in r.variables v
    → whole t (id.Variable v) ≡ whole t a → IsEnd t (id.Variable v) → MayBePlaceOf t r a o
place_variable t r a v o h e k end p f = record {
  head = id.Variable v;
  at = h.variables v p (sym e ∙ f);
  same = k;
  passed = variable_passed t r a v p h (sym e ∙ f) (sym k ∙ end.1);
}

-- a variable that was met before
pub found_again : (t : Table) (r : Reached) (v p : ℕ) → IsReached t r → place_in r.variables v ≡ Some p → IsEnd t (id.Variable v)
    → (kept : ℕ → Bool) → found kept r ≡ noticed (kept v) v (found kept r)
found_again t r v p h e end kept =
    sym (found_passed t r (id.Variable v) (variable_passed t r (id.Variable v) v p h e end.1) kept)
    ∙ ap (λ u. found_in kept u (found kept r)) end.1

-- one part more was passed
passed_at : (t : Table) (r : Reached) (ids : List TyId) (i k : ℕ) (b c : TyId) → slice_get ids i ≡ Some b → IsPassed t r b
    → k ≡ i → slice_get ids k ≡ Some c → IsPassed t r c
passed_at t r ids i k b c e h f g = subst (IsPassed t r) (some_same b c (sym e ∙ sym (ap (slice_get ids) f) ∙ g)) h

pub passed_next : (t : Table) (r : Reached) (ids items : List TyId) (i : ℕ) (d : TyId) → items ≡ ids → i < length items
    → IsPassed t r (get_or items i d)
    → ((k : ℕ) (c : TyId) → k < i → slice_get ids k ≡ Some c → IsPassed t r c)
    → (k : ℕ) (c : TyId) → k < i + 1 → slice_get ids k ≡ Some c → IsPassed t r c
passed_next t r ids items i d e l h before k c m g =
    let at : slice_get ids i ≡ Some (get_or items i d) = item_at ids items i d e l in
    last_one k i m (λ n. before k c n g) (λ n. passed_at t r ids i k (get_or items i d) c at h n g)

pub some_passed : (t : Table) (r : Reached) (a : TyId) (o : Option ℕ) → MayBePlaceOf t r a o → is_some o ≡ true → IsPassed t r a
some_passed t r a None h e = absurd (cc)
some_passed t r a (Some p) h e = (h p refl).passed

-- ---- a node whose parts were passed

pub parts_are : (t : Table) (i : ℕ) (x : Node) → slice_get t.nodes i ≡ Some x → parts_at t i ≡ x.parts
parts_are t i x e = ap (λ (y : Node). y.parts) (get_or_from_slice_get t.nodes i x (record { symbol = symbol.Arrow; parts = [] }) e)

pub node_has : (t : Table) (i : ℕ) (x : Node) → AreMade (store_of t) → slice_get t.nodes i ≡ Some x → HaveAll t x.parts
node_has t i x h e k a f = id_more (length t.births) i (length t.births) (length t.nodes) a (omega arith)
    (let l : i < length t.nodes = slice_get_within t.nodes i x e in omega (arith, l)) ((h.each i x e).parts k a f)

parts_passed : (t : Table) (r : Reached) (ids : List TyId) → AllPassed t r ids → (v : ℕ) → occurs_any v (whole_all t ids) ≡ true
    → is_among v (variables_of r.ids) ≡ true
parts_passed t r [] h v e = absurd (cc)
parts_passed t r (a ∷ ids) h v e = or_either (occurs v (whole t a)) (occurs_any v (whole_all t ids)) e
    (h 0 a refl v) (parts_passed t r ids (λ i b f. h (suc i) b f) v)

pub node_passed : (t : Table) (r : Reached) (i : ℕ) (x : Node) → IsKept t → slice_get t.nodes i ≡ Some x → AllPassed t r x.parts
    → IsPassed t r (id.Made i)
node_passed t r i x k e h v o = parts_passed t r x.parts h v (sym (ap (occurs v) (node_whole t i x k.made e)) ∙ o)

-- ---- steps

pub found_snoc : (kept : ℕ → Bool) (t : Table) (ss : List Step) (s : Step) (vs : List ℕ)
    → found_after kept t (ss ++ s ∷ []) vs ≡ found_after kept t ss (found_by kept t s vs)
found_snoc kept t [] s vs = refl
found_snoc kept t (r ∷ ss) s vs = ap (found_by kept t r) (found_snoc kept t ss s vs)

pub weights_snoc : (t : Table) (ss : List Step) (s : Step) → weights t (ss ++ s ∷ []) ≡ weights t ss + weight t s
weights_snoc t [] s = refl
weights_snoc t (r ∷ ss) s = (let k : weights t (ss ++ s ∷ []) ≡ weights t ss + weight t s = weights_snoc t ss s in omega (arith, k))

have_snoc : (t : Table) (ss : List Step) (s : Step) → StepsHave t ss → StepHas t s → StepsHave t (ss ++ s ∷ [])
have_snoc t [] s h k = (k, tt)
have_snoc t (r ∷ ss) s h k = (h.0, have_snoc t ss s h.1 k)

pub have_front : (t : Table) (ss : List Step) (s : Step) → StepsHave t (ss ++ s ∷ []) → StepsHave t ss × StepHas t s
have_front t [] s h = (tt, h.0)
have_front t (r ∷ ss) s h = (let k = have_front t ss s h.1 in ((h.0, k.0), k.1))

found_entered : (kept : ℕ → Bool) (t : Table) (ss : List Step) (ids : List TyId) (vs : List ℕ)
    → found_after kept t (ss ++ entered ids) vs ≡ found_after kept t ss (found_in_all kept (whole_all t ids) vs)
found_entered kept t ss [] vs = ap (λ z. found_after kept t z vs) (append-nil ss)
found_entered kept t ss (a ∷ ids) vs = ap (λ z. found_after kept t z vs) (sym (append_assoc ss (entered ids) (step.Enter a ∷ [])))
    ∙ found_snoc kept t (ss ++ entered ids) (step.Enter a) vs
    ∙ found_entered kept t ss ids (found_in kept (whole t a) vs)

weights_entered : (t : Table) (ss : List Step) (ids : List TyId)
    → weights t (ss ++ entered ids) ≡ weights t ss + 2 * size_all (whole_all t ids)
weights_entered t ss [] = (let k : weights t (ss ++ []) ≡ weights t ss = ap (weights t) (append-nil ss) in omega (arith, k))
weights_entered t ss (a ∷ ids) =
    let j : weights t (ss ++ (entered ids ++ step.Enter a ∷ [])) ≡ weights t ((ss ++ entered ids) ++ step.Enter a ∷ []) =
    ap (weights t) (sym (append_assoc ss (entered ids) (step.Enter a ∷ []))) in
    let k : weights t ((ss ++ entered ids) ++ step.Enter a ∷ []) ≡ weights t (ss ++ entered ids) + 2 * size (whole t a) =
    weights_snoc t (ss ++ entered ids) (step.Enter a) in
    let l : weights t (ss ++ entered ids) ≡ weights t ss + 2 * size_all (whole_all t ids) = weights_entered t ss ids in
    omega (arith, j, k, l)

have_entered : (t : Table) (ss : List Step) (ids : List TyId) → StepsHave t ss → HaveAll t ids → StepsHave t (ss ++ entered ids)
have_entered t ss [] h k = subst (StepsHave t) (sym (append-nil ss)) h
have_entered t ss (a ∷ ids) h k = subst (StepsHave t) (append_assoc ss (entered ids) (step.Enter a ∷ []))
    (have_snoc t (ss ++ entered ids) (step.Enter a) (have_entered t ss ids h (λ i b e. k (suc i) b e)) (k 0 a refl))

size_some : (u : Ty) → 1 ≤ size u
size_some (Ty.Var n) = omega arith
size_some (Ty.Made c us) = omega arith

-- a step that adds none
pub taken_alone : (t : Table) (a : TyId) (old new : Reached) (ss : List Step) → IsReached t new
    → ((kept : ℕ → Bool) → found kept new ≡ found_in kept (whole t a) (found kept old))
    → StepTaken t (step.Enter a) old new ss ss
taken_alone t a old new ss h f = record {
  reached = h;
  finds = λ kept. ap (found_after kept t ss) (f kept);
  less = (let k : 1 ≤ size (whole t a) = size_some (whole t a) in omega (arith, k));
  have = λ k. k;
}

pub taken_passed : (t : Table) (a : TyId) (i p : ℕ) (r : Reached) (ss : List Step) → IsReached t r
    → whole t (id.Made i) ≡ whole t a → place_in r.nodes i ≡ Some p → StepTaken t (step.Enter a) r r ss ss
taken_passed t a i p r ss h e k = taken_alone t a r r ss h
    (λ kept. sym (found_passed t r (id.Made i) (h.passed i p k) kept) ∙ ap (λ u. found_in kept u (found kept r)) e)

-- a variable
pub taken_variable : (t : Table) (a : TyId) (v : ℕ) (old new : Reached) (ss : List Step) → IsHeadOf t a (id.Variable v)
    → IsReached t new → ((kept : ℕ → Bool) → found kept new ≡ noticed (kept v) v (found kept old))
    → StepTaken t (step.Enter a) old new ss ss
taken_variable t a v old new ss h k f = taken_alone t a old new ss k
    (λ kept. f kept ∙ ap (λ u. found_in kept u (found kept old)) (sym h.end.1 ∙ h.whole))

pub taken_open : (t : Table) (a : TyId) (i : ℕ) (x : Node) (r : Reached) (ss new : List Step) → IsKept t → IsReached t r
    → slice_get t.nodes i ≡ Some x → whole t (id.Made i) ≡ whole t a → IsOpened t i ss new
    → StepTaken t (step.Enter a) r r ss new
taken_open t a i x r ss new k h at e o =
    let opened : new ≡ (ss ++ step.Leave i ∷ []) ++ entered x.parts = o ∙ ap (λ ps. (ss ++ step.Leave i ∷ []) ++ entered ps) (parts_are t i x at) in
    let type : whole t a ≡ Ty.Made x.symbol (whole_all t x.parts) = sym e ∙ node_whole t i x k.made at in
    record {
      reached = h;
      finds = λ kept. ap (λ z. found_after kept t z (found kept r)) opened
          ∙ found_entered kept t (ss ++ step.Leave i ∷ []) x.parts (found kept r)
          ∙ found_snoc kept t ss (step.Leave i) (found_in_all kept (whole_all t x.parts) (found kept r))
          ∙ ap (λ u. found_after kept t ss (found_in kept u (found kept r))) (sym type);
      less = (let m : weights t new ≡ weights t ((ss ++ step.Leave i ∷ []) ++ entered x.parts) = ap (weights t) opened in
          let n : weights t ((ss ++ step.Leave i ∷ []) ++ entered x.parts) ≡ weights t (ss ++ step.Leave i ∷ []) + 2 * size_all (whole_all t x.parts) =
          weights_entered t (ss ++ step.Leave i ∷ []) x.parts in
          let l : weights t (ss ++ step.Leave i ∷ []) ≡ weights t ss + 1 = weights_snoc t ss (step.Leave i) in
          let z : size (whole t a) ≡ size_all (whole_all t x.parts) + 1 = ap size type in
          omega (arith, m, n, l, z));
      have = λ g. subst (StepsHave t) (sym opened) (have_entered t (ss ++ step.Leave i ∷ []) x.parts
          (have_snoc t ss (step.Leave i) g (slice_get_within t.nodes i x at)) (node_has t i x k.made at));
    }

pub taken_opened : (t : Table) (a : TyId) (i : ℕ) (r : Reached) (ss new : List Step) → IsKept t → IsReached t r
    → i < length t.nodes → whole t (id.Made i) ≡ whole t a → IsOpened t i ss new → StepTaken t (step.Enter a) r r ss new
taken_opened t a i r ss new k h l e o =
    let x : Node = get_or t.nodes i (record { symbol = symbol.Arrow; parts = [] }) in
    taken_open t a i x r ss new k h (slice_get-get_or t.nodes i (record { symbol = symbol.Arrow; parts = [] }) l) e o

-- what was found before is the same
pub taken_since : (t : Table) (s : Step) (old mid new : Reached) (before after : List Step)
    → ((kept : ℕ → Bool) → found kept mid ≡ found kept old) → StepTaken t s mid new before after
    → StepTaken t s old new before after
taken_since t s old mid new before after e h = record {
  reached = h.reached;
  finds = λ kept. h.finds kept ∙ ap (λ z. found_after kept t before (found_by kept t s z)) (e kept);
  less = h.less;
  have = h.have;
}

-- all steps
pub found_on : (kept : ℕ → Bool) (t : Table) (s : Step) (old new : Reached) (all ss after : List Step) (vs : List ℕ)
    → StepTaken t s old new ss after → all ≡ ss ++ s ∷ [] → found_after kept t all (found kept old) ≡ vs
    → found_after kept t after (found kept new) ≡ vs
found_on kept t s old new all ss after vs h e k = h.finds kept
    ∙ sym (found_snoc kept t ss s (found kept old)) ∙ ap (λ z. found_after kept t z (found kept old)) (sym e) ∙ k

pub less_on : (t : Table) (s : Step) (old new : Reached) (all ss after : List Step) → StepTaken t s old new ss after
    → all ≡ ss ++ s ∷ [] → weights t after < weights t all
less_on t s old new all ss after h e =
    let k : weights t all ≡ weights t (ss ++ s ∷ []) = ap (weights t) e in
    let l : weights t (ss ++ s ∷ []) ≡ weights t ss + weight t s = weights_snoc t ss s in
    omega (arith, k, l, h.less)
