-- What stands for the variables of a table, by the answers for its nodes.
use Rattle.std.proofs.Common.{◌≡◌, ℕ, zero, suc, ◌+◌, ◌<◌, ◌≤◌, List, [], ◌∷◌, ◌++◌, length, drop, refl, sym, ap, ap₂, ◌∙◌, subst, Some, Bool, true, false, arith, ◌⊎◌, inl, inr, slice_get, eqb, ltb}
use Rattle.std.specs.Prelude.{◌↔◌, Result, Ok, Err, IfOk}
use Rattle.std.proofs.lemmas.Bool.{eqb-true, eqb-false, ltb-true, ltb-false}
use Rattle.std.proofs.lemmas.List.{length-append}
use Rattle.semantic_objects.specs.declared.name.TyId.{TyId}
use Rattle.semantic_objects.specs.declared.name.TyId.TheVariants as id
use Rattle.semantic_objects.specs.declared.symbol.Symbol.{Symbol}
use Rattle.unification.proofs.Walking.{not_both}
use Rattle.unification.specs.Types.{Ty, Types, size, size_all}
use Rattle.type_nodes.specs.Keeping.{IsKept}
use Rattle.type_nodes.specs.Tables.{Table, state, whole, whole_all}
use Rattle.sml_types.specs.Looking.{LooksVariable}
use Rattle.inference_laws.specs.Nodes.{Nodes, TyOf, TysOf, StateOf, count_types, below_number}
use Rattle.given_tops.specs.Knowing.{UpTo, IsSure, IsNear, Says, SaysPart, AreNear, AreOf, SaysAll, AreTold}

module _ (t : Table) (q : Nodes) where
  -- ---- parts

  pub near_variable : (v : ℕ) → IsNear t q (id.Variable v)
  near_variable v n up lt = up v lt

  pub says_part : (a : TyId) (b : Bool) → Says t q a b → SaysPart t q a b
  says_part a true h = λ n up lt. h n up (omega (arith, lt))
  says_part a false h = h

  pub says_more : (a : TyId) (ids : List TyId) (b : Bool) → IsNear t q a → SaysAll t q ids b → SaysAll t q (a ∷ ids) b
  says_more a ids true n h = (n, h)
  says_more a ids false n h = λ k. h k.1

  pub says_not : (a : TyId) (ids : List TyId) → SaysPart t q a false → SaysAll t q (a ∷ ids) false
  says_not a ids h k = h k.0

  pub says_one : (a : TyId) (b : Bool) → SaysPart t q a b → SaysAll t q (a ∷ []) b
  says_one a true h = (h, tt)
  says_one a false h = λ k. h k.0

  -- ---- what stands at an id

  near_all : (ids : List TyId) → AreNear t q ids → (n : ℕ) → UpTo t q n → size_all (whole_all t ids) < n
      → TysOf q (whole_all t ids)
  near_all [] h n up lt = tt
  near_all (a ∷ ids) h n up lt = (
    h.0 n up (omega (arith, lt)),
    near_all ids h.1 n up (omega (arith, lt)),
  )

  all_of : (ids : List TyId) → TysOf q (whole_all t ids) → AreOf t q ids
  all_of [] h = tt
  all_of (a ∷ ids) h = (h.0, all_of ids h.1)

  pub variable_sure : (a : TyId) (eq rigid : Bool) → LooksVariable t a eq rigid → IsSure t q a
  variable_sure a eq rigid l n up le = subst (TyOf q) (sym l.is) tt

  pub made_says : (a : TyId) (c : Symbol) (ids : List TyId) (b : Bool) → whole t a ≡ Ty.Made c (whole_all t ids)
      → q c (count_types (whole_all t ids)) ≡ true → SaysAll t q ids b → Says t q a b
  made_says a c ids true e s h = λ n up le.
      let k : size (whole t a) ≡ size_all (whole_all t ids) + 1 = ap size e in
      subst (TyOf q) (sym e) (s, near_all ids h n up (omega (arith, k, le)))
  made_says a c ids false e s h = λ k. h (all_of ids (parts (subst (TyOf q) e k)))
    where
      parts : TyOf q (Ty.Made c (whole_all t ids)) → TysOf q (whole_all t ids)
      parts w = w.1

  pub made_not : (a : TyId) (c : Symbol) (ids : List TyId) → whole t a ≡ Ty.Made c (whole_all t ids)
      → q c (count_types (whole_all t ids)) ≡ false → Says t q a false
  made_not a c ids e s k = not_both (q c (count_types (whole_all t ids))) s (front (subst (TyOf q) e k))
    where
      front : TyOf q (Ty.Made c (whole_all t ids)) → q c (count_types (whole_all t ids)) ≡ true
      front w = w.0

  -- ---- answers one after another

  at_end : (held : List Bool) (b : Bool) (i : ℕ) (c : Bool) → slice_get (held ++ b ∷ []) i ≡ Some c
      → (slice_get held i ≡ Some c) ⊎ ((i ≡ length held) × (b ≡ c))
  at_end [] b zero c h = inr (refl, cc)
  at_end [] b (suc i) c h = absurd (cc)
  at_end (x ∷ held) b zero c h = inl h
  at_end (x ∷ held) b (suc i) c h = further (at_end held b i c h)
    where
      further : (slice_get held i ≡ Some c) ⊎ ((i ≡ length held) × (b ≡ c))
          → (slice_get (x ∷ held) (suc i) ≡ Some c) ⊎ ((suc i ≡ length (x ∷ held)) × (b ≡ c))
      further (inl e) = inl e
      further (inr e) = inr (ap suc e.0, e.1)

  pub told_nothing : AreTold t q []
  told_nothing = record { each = λ i b h. absurd (cc) }

  pub told_more : (held : List Bool) (at : ℕ) (b : Bool) → AreTold t q held → length held ≡ at
      → Says t q (id.Made at) b → AreTold t q (held ++ b ∷ [])
  told_more held at b h e s = record { each = λ i c f. by_side i c (at_end held b i c f) }
    where
      by_side : (i : ℕ) (c : Bool) → (slice_get held i ≡ Some c) ⊎ ((i ≡ length held) × (b ≡ c)) → Says t q (id.Made i) c
      by_side i c (inl f) = h.each i c f
      by_side i c (inr f) =
          subst (λ n. Says t q (id.Made n) c) (sym (f.0 ∙ e)) (subst (Says t q (id.Made at)) f.1 s)

  -- ---- all variables

  up_to : ((v : ℕ) → IsSure t q (id.Variable v)) → (n : ℕ) → UpTo t q n
  up_to h zero v lt = absurd (omega (arith, lt))
  up_to h (suc n) v lt = h v n (up_to h n) (omega (arith, lt))

  pub state_of : ((v : ℕ) → IsSure t q (id.Variable v)) → StateOf q (state t)
  state_of h v = h v (size ((state t).stands v)) (up_to h (size ((state t).stands v))) (omega arith)

  pub state_not : (v : ℕ) → Says t q (id.Variable v) false → StateOf q (state t) → ⊥
  state_not v h s = h (s v)

  sure_beyond : (v : ℕ) → (state t).stands v ≡ Ty.Var v → IsSure t q (id.Variable v)
  sure_beyond v e n up le = subst (TyOf q) (sym e) tt

  -- ---- one after another

  pub args_next : (args rest more : List TyId) (a : TyId) (part : Bool) → rest ≡ a ∷ more → SaysPart t q a part
      → part ≡ true → ((b : Bool) → SaysAll t q rest b → SaysAll t q args b) → (b : Bool) → SaysAll t q more b
      → SaysAll t q args b
  args_next args rest more a part e s f h b k =
      h b (subst (λ z. SaysAll t q z b) (sym e) (says_more a more b (subst (SaysPart t q a) f s) k))

  pub args_fail : (args rest more : List TyId) (a : TyId) (part : Bool) → rest ≡ a ∷ more → SaysPart t q a part
      → part ≡ false → ((b : Bool) → SaysAll t q rest b → SaysAll t q args b) → SaysAll t q args false
  args_fail args rest more a part e s f h =
      h false (subst (λ z. SaysAll t q z false) (sym e) (says_not a more (subst (SaysPart t q a) f s)))

  pub args_end : (args rest : List TyId) → rest ≡ [] → ((b : Bool) → SaysAll t q rest b → SaysAll t q args b)
      → SaysAll t q args true
  args_end args rest e h = h true (subst (λ z. SaysAll t q z true) (sym e) tt)

  pub two_say : (a c : TyId) (first b : Bool) → SaysPart t q a first → first ≡ true → SaysPart t q c b
      → SaysAll t q (a ∷ c ∷ []) b
  two_say a c first b s e k = says_more a (c ∷ []) b (subst (SaysPart t q a) e s) (says_one c b k)

  pub one_says_not : (a c : TyId) (first : Bool) → SaysPart t q a first → first ≡ false
      → SaysAll t q (a ∷ c ∷ []) false
  one_says_not a c first s e = says_not a (c ∷ []) (subst (SaysPart t q a) e s)

  pub held_next : (held new : List Bool) (at : ℕ) (b : Bool) → new ≡ held ++ b ∷ [] → AreTold t q held
      → length held ≡ at → Says t q (id.Made at) b → AreTold t q new
  held_next held new at b e h k s = subst (AreTold t q) (sym e) (told_more held at b h k s)

  pub held_counted : (held new : List Bool) (at : ℕ) (b : Bool) → new ≡ held ++ b ∷ [] → length held ≡ at
      → length new ≡ at + 1
  held_counted held new at b e k =
      let f : length (held ++ b ∷ []) ≡ length held + 1 = length-append held (b ∷ []) in
      ap length e ∙ f ∙ ap (λ n. n + 1) k

  pub sure_next : (at : ℕ) (b : Bool) → ((v : ℕ) → v < at → IsSure t q (id.Variable v)) → Says t q (id.Variable at) b
      → b ≡ true → (v : ℕ) → v < at + 1 → IsSure t q (id.Variable v)
  sure_next at b h s e v lt = by_place (eqb v at) refl
    where
      by_place : (same : Bool) → eqb v at ≡ same → IsSure t q (id.Variable v)
      by_place true i =
          subst (λ n. IsSure t q (id.Variable n)) (sym (eqb-true v at i)) (subst (Says t q (id.Variable at)) e s)
      by_place false i = h v (let n : v ≡ at → ⊥ = eqb-false v at i in omega (arith, lt, n))

  pub all_sure : (at count : ℕ) → IsKept t → count ≡ length t.births → count ≤ at
      → ((v : ℕ) → v < at → IsSure t q (id.Variable v)) → StateOf q (state t)
  all_sure at count k e le h = state_of sure
    where
      sure : (v : ℕ) → IsSure t q (id.Variable v)
      sure v = by_place (ltb v at) refl
        where
          by_place : (below : Bool) → ltb v at ≡ below → IsSure t q (id.Variable v)
          by_place true i = h v (ltb-true v at i)
          by_place false i =
              let l : at ≤ v = ltb-false v at i in
              let n : (state t).next ≡ count = k.next ∙ sym e in
              sure_beyond v (k.fit.beyond v (omega (arith, l, le, n)))

-- where home and number are those of a graph
pub knows_is : {E : Type 0} (t : Table) (home h : List ℕ) (k n : ℕ) (r : Result Bool E) → h ≡ home → n ≡ k
    → IfOk r (λ b. (b ≡ true) ↔ StateOf (below_number h n) (state t))
    → IfOk r (λ b. (b ≡ true) ↔ StateOf (below_number home k) (state t))
knows_is t home h k n (Ok b) e f s =
    subst (λ z. (b ≡ true) ↔ StateOf (below_number z k) (state t)) e
    (subst (λ m. (b ≡ true) ↔ StateOf (below_number h m) (state t)) f s)
knows_is t home h k n (Err x) e f s = tt
