-- counted sizes hold while the table grows, and are forgotten where an entry is taken back
use Rattle.std.proofs.Common.{◌≡◌, ℕ, ◌+◌, ◌<◌, ◌≤◌, List, [], ◌∷◌, ◌++◌, length, take, drop, refl, sym, ap, ap₂, ◌∙◌, subst, Option, Some, true, false, arith, ◌⊎◌, inl, inr, slice_get}
use Rattle.std.proofs.lemmas.List.{drop-append-le, take-append-drop, get_or_append_left, get_or_past}
use Rattle.std.proofs.lemmas.Bool.{ltb-true, ltb-false}
use Rattle.std.specs.Prelude.{ltb}
use Rattle.semantic_objects.specs.declared.name.TyId.{TyId}
use Rattle.semantic_objects.specs.declared.name.TyId.TheVariants as id
use Rattle.unification.specs.Types.{Ty, State, put, size, occurs}
use Rattle.unification.specs.Unification.{single}
use Rattle.unification.proofs.Putting.{either_way, put-put, one_absent}
use Rattle.type_nodes.specs.declared.node.Birth.{Birth}
use Rattle.type_nodes.specs.declared.node.Node.{Node}
use Rattle.type_nodes.specs.declared.entry.Entry.{Entry}
use Rattle.type_nodes.specs.declared.entry.Entry.TheVariants as entry
use Rattle.type_nodes.specs.declared.stamp.Stamp.{Stamp}
use Rattle.type_nodes.specs.declared.stamp.Weight.{Weight}
use Rattle.type_nodes.specs.Facts.{capped}
use Rattle.type_nodes.specs.Nodes.{Store, type_in, made, born, with_birth, with_node, rigid_in}
use Rattle.type_nodes.specs.Tables.{Table, Has, after_entries, state, whole, type_of, with_variable_of, with_node_of, with_entry, cut, IsFrontOf}
use Rattle.type_nodes.specs.Keeping.{IsHistory, Remembers}
use Rattle.type_nodes.specs.Ways.{IsNextEra}
use Rattle.type_nodes.specs.Stamps.{Weighs, IsAbove, AreAbove, Holds, IsStamp, AreStamps}
use Rattle.type_nodes.proofs.Binding.{state_bound, state_marked, whole_below}
use Rattle.type_nodes.proofs.Histories.{kept, bound_has, whole_front, has_node, whole_node}
use Rattle.type_nodes.proofs.Cells.{table_with}
use Rattle.type_nodes.proofs.Knowing.{get_front}
use Rattle.type_nodes.proofs.Making.{length_snoc, type_front}
use Rattle.type_nodes.proofs.Playing.{after_alike, after_stands}

-- a type that stays has its weight still
weighs_same : (old new : Table) (i : ℕ) (w : Weight) → whole new (id.Made i) ≡ whole old (id.Made i)
    → ((v : ℕ) → rigid_in new.births v ≡ false → rigid_in old.births v ≡ false) → Weighs old i w → Weighs new i w
weighs_same old new i w e r h = record {
  size = h.size ∙ sym (ap (λ u. capped (size u)) e);
  below = λ v f o. h.below v (r v f) (subst (λ u. occurs v u ≡ true) e o);
}

abbrev no_birth : Birth
no_birth = record { marked = false; rigid = false }

-- a variable that isn't rigid where one more was made isn't where it wasn't
rigid_before : (births : List Birth) (b : Birth) (v : ℕ) → rigid_in (births ++ b ∷ []) v ≡ false → rigid_in births v ≡ false
rigid_before births b v h = either_way (ltb v (length births))
    (λ e. sym (ap (λ (x : Birth). x.rigid) (get_or_append_left births (b ∷ []) no_birth v (ltb-true v (length births) e))) ∙ h)
    (λ e. ap (λ (x : Birth). x.rigid) (get_or_past births v no_birth (ltb-false v (length births) e)))

holds_variable : (t : Table) (b : Birth) (i : ℕ) (s : Stamp) → Holds t i s → Holds (with_variable_of b t) i s
holds_variable t b i s h = record {
  has = h.has;
  within = h.within;
  weighs = λ a. weighs_same t (with_variable_of b t) i s.weight (whole_front t b (id.Made i)) (rigid_before t.births b) (h.weighs a);
}

holds_node : (t : Table) (x : Node) (i : ℕ) (s : Stamp) → IsHistory t → Holds t i s → Holds (with_node_of x t) i s
holds_node t x i s k h = record {
  has = has_node t x (id.Made i) h.has;
  within = h.within;
  weighs = λ a. weighs_same t (with_node_of x t) i s.weight (whole_node t x (id.Made i) k h.has) (λ v f. f) (h.weighs a);
}

pub stamps_with_variable : (old new : Store) (es : List Entry) (b : Birth) (stamps : List (Option Stamp)) (cuts : ℕ)
    → new ≡ with_birth b old → AreStamps (table_with old es) stamps cuts → AreStamps (table_with new es) stamps cuts
stamps_with_variable old new es b stamps cuts e h = subst (λ s. AreStamps (table_with s es) stamps cuts) (sym e)
    (λ i s g. record {
      past = (h i s g).past;
      holds = λ same more. holds_variable (table_with old es) b i s ((h i s g).holds same more);
    })

pub stamps_with_node : (old new : Store) (es : List Entry) (x : Node) (stamps : List (Option Stamp)) (cuts : ℕ)
    → IsHistory (table_with old es) → new ≡ with_node x old → AreStamps (table_with old es) stamps cuts
    → AreStamps (table_with new es) stamps cuts
stamps_with_node old new es x stamps cuts k e h = subst (λ s. AreStamps (table_with s es) stamps cuts) (sym e)
    (λ i s g. record {
      past = (h i s g).past;
      holds = λ same more. holds_node (table_with old es) x i s k ((h i s g).holds same more);
    })

-- all but the last entry, and the last one
above_front : (n : ℕ) (es : List Entry) (e : Entry) → AreAbove n (es ++ e ∷ []) → AreAbove n es × IsAbove n e
above_front n [] e h = (tt, h.0)
above_front n (x ∷ es) e h = (let k = above_front n es e h.1 in ((h.0, k.0), k.1))

above_since : (n from : ℕ) (es : List Entry) (e : Entry) → from ≤ length es → AreAbove n (drop from (es ++ e ∷ []))
    → AreAbove n (drop from es) × IsAbove n e
above_since n from es e l h = above_front n (drop from es) e (subst (AreAbove n) (drop-append-le from es (e ∷ []) l) h)

absent_below : (t : Table) (i v : ℕ) (w : Weight) → Weighs t i w → rigid_in t.births v ≡ false → w.above ≤ v
    → occurs v (whole t (id.Made i)) ≡ false
absent_below t i v w h f l = either_way (occurs v (whole t (id.Made i)))
    (λ e. let k : v < w.above = h.below v f e in absurd (omega (arith, k, l))) (λ e. e)

whole_bound : (t : Table) (v : ℕ) (a b : TyId) → occurs v (whole t b) ≡ false → whole (with_entry (entry.Bound v a) t) b ≡ whole t b
whole_bound t v a b h = ap (λ (s : State). put s.stands (type_of t b)) (state_bound t v a)
    ∙ sym (put-put (single v (whole t a)) (state t).stands (type_of t b))
    ∙ one_absent v (whole t a) (whole t b) h

whole_marked : (t : Table) (v : ℕ) (b : TyId) → whole (with_entry (entry.Marked v) t) b ≡ whole t b
whole_marked t v b = ap (λ (s : State). put s.stands (type_of t b)) (state_marked t v)

weighs_bound : (t : Table) (v : ℕ) (a : TyId) (i : ℕ) (w : Weight) → rigid_in t.births v ≡ false → w.above ≤ v → Weighs t i w
    → Weighs (with_entry (entry.Bound v a) t) i w
weighs_bound t v a i w f l h = weighs_same t (with_entry (entry.Bound v a) t) i w
    (whole_bound t v a (id.Made i) (absent_below t i v w h f l)) (λ u g. g) h

entries_more : (t : Table) (e : Entry) (n : ℕ) → n ≤ length t.trail → n ≤ length (t.trail ++ e ∷ [])
entries_more t e n l = (let k : length (t.trail ++ e ∷ []) ≡ length t.trail + 1 = length_snoc t.trail e in omega (arith, k, l))

pub stamps_bound : (t : Table) (u : ℕ) (a : TyId) (stamps : List (Option Stamp)) (cuts : ℕ) → rigid_in t.births u ≡ false
    → AreStamps t stamps cuts
    → AreStamps (with_entry (entry.Bound u a) t) stamps cuts
stamps_bound t u a stamps cuts f h i s g = record {
  past = (h i s g).past;
  holds = λ same more. (let k = (h i s g).holds same more in record {
    has = k.has;
    within = entries_more t (entry.Bound u a) s.entries k.within;
    weighs = λ z. (let y = above_since s.weight.above s.entries t.trail (entry.Bound u a) k.within z in
        weighs_bound t u a i s.weight f y.1 (k.weighs y.0));
  });
}

pub stamps_marked : (t : Table) (u : ℕ) (stamps : List (Option Stamp)) (cuts : ℕ) → AreStamps t stamps cuts
    → AreStamps (with_entry (entry.Marked u) t) stamps cuts
stamps_marked t u stamps cuts h i s g = record {
  past = (h i s g).past;
  holds = λ same more. (let k = (h i s g).holds same more in record {
    has = k.has;
    within = entries_more t (entry.Marked u) s.entries k.within;
    weighs = λ z. weighs_same t (with_entry (entry.Marked u) t) i s.weight (whole_marked t u (id.Made i)) (λ v f. f)
        (k.weighs (above_since s.weight.above s.entries t.trail (entry.Marked u) k.within z).0);
  });
}

-- whatever is taken back
pub stamps_back : (t new : Table) (stamps : List (Option Stamp)) (cuts next : ℕ) → IsNextEra cuts next → AreStamps t stamps cuts
    → AreStamps new stamps next
stamps_back t new stamps cuts next n h i s g =
    let past : s.cuts ≤ cuts = (h i s g).past in
    let more : cuts ≤ next = n.0 in
    record {
      past = omega (arith, past, more);
      holds = λ same m. absurd (let l : cuts < next = n.1 m in omega (arith, l, same, past));
    }

-- a size more
stamp_more : (t : Table) (at : ℕ) (old : List (Option Stamp)) (new : Stamp) (cuts i : ℕ) (s : Stamp) → new.cuts ≡ cuts → Holds t at new
    → AreStamps t old cuts → (slice_get old i ≡ Some (Some s)) ⊎ ((i ≡ at) × (s ≡ new)) → IsStamp t cuts i s
stamp_more t at old new cuts i s k l h (inl e) = h i s e
stamp_more t at old new cuts i s k l h (inr e) = subst (λ z. IsStamp t cuts z s) (sym e.0)
    (subst (IsStamp t cuts at) (sym e.1) (record { past = omega (arith, k); holds = λ same m. l }))

pub stamps_more : (t : Table) (at : ℕ) (old new : List (Option Stamp)) (stamp : Stamp) (cuts : ℕ) → stamp.cuts ≡ cuts → Holds t at stamp
    → ((i : ℕ) (s : Stamp) → slice_get new i ≡ Some (Some s) → (slice_get old i ≡ Some (Some s)) ⊎ ((i ≡ at) × (s ≡ stamp)))
    → AreStamps t old cuts → AreStamps t new cuts
stamps_more t at old new stamp cuts k l s h i x e = stamp_more t at old stamp cuts i x k l h (s i x e)

-- variables and nodes taken back, where the trail stays
stands_back : (p t : Table) (ys : List Node) → IsHistory p → t.nodes ≡ p.nodes ++ ys → t.trail ≡ p.trail
    → (state t).stands ≡ (state p).stands
stands_back p t ys h n e =
    ap₂ (λ xs es. (after_entries (made xs) (born t.births) es).stands) n e
    ∙ ap (λ (s : State). s.stands) (after_alike (made (p.nodes ++ ys)) (made p.nodes) (born t.births) p.trail
    (λ i v a f. type_front p.nodes ys (length p.births) a (bound_has p i v a h f)))
    ∙ after_stands (made p.nodes) (born t.births) (born p.births) p.trail refl

whole_back : (p t : Table) (ys : List Node) (a : TyId) → IsHistory p → t.nodes ≡ p.nodes ++ ys → t.trail ≡ p.trail → Has p a
    → whole t a ≡ whole p a
whole_back p t ys a h n e l = ap₂ put (stands_back p t ys h n e)
    (ap (λ xs. type_in (made xs) a) n ∙ type_front p.nodes ys (length p.births) a l)

rigid_back : (p t : Table) (bs : List Birth) (v : ℕ) → t.births ≡ p.births ++ bs → v < length p.births
    → rigid_in t.births v ≡ rigid_in p.births v
rigid_back p t bs v e l = ap (λ xs. rigid_in xs v) e
    ∙ ap (λ (x : Birth). x.rigid) (get_or_append_left p.births bs no_birth v l)

below_births : (p : Table) (a : TyId) (v : ℕ) → IsHistory p → Has p a → occurs v (whole p a) ≡ true → v < length p.births
below_births p a v h l o = subst (λ n. v < n) (kept p h).next (whole_below p a (kept p h) l v o)

weighs_back : (p t : Table) (bs : List Birth) (ys : List Node) (i : ℕ) (w : Weight) → IsHistory p → t.births ≡ p.births ++ bs
    → t.nodes ≡ p.nodes ++ ys → t.trail ≡ p.trail → i < length p.nodes → Weighs t i w → Weighs p i w
weighs_back p t bs ys i w h b n e l k =
    let same : whole t (id.Made i) ≡ whole p (id.Made i) = whole_back p t ys (id.Made i) h n e l in
    record {
      size = k.size ∙ ap (λ u. capped (size u)) same;
      below = λ v f o. k.below v (rigid_back p t bs v b (below_births p (id.Made i) v h l o) ∙ f)
          (subst (λ u. occurs v u ≡ true) (sym same) o);
    }

stamps_front : (p t : Table) (bs : List Birth) (ys : List Node) (old new : List (Option Stamp)) (n cuts : ℕ) → IsHistory p
    → t.births ≡ p.births ++ bs → t.nodes ≡ p.nodes ++ ys → t.trail ≡ p.trail → n ≡ length p.nodes → new ≡ take n old
    → AreStamps t old cuts → AreStamps p new cuts
stamps_front p t bs ys old new n cuts h b x e l r k i s g =
    let f : (i < n) × (slice_get old i ≡ Some (Some s)) =
    get_front n i old (Some s) (subst (λ (z : List (Option Stamp)). slice_get z i ≡ Some (Some s)) r g) in
    let within : i < length p.nodes = subst (λ z. i < z) l f.0 in
    record {
      past = (k i s f.1).past;
      holds = λ same more. (let o : Holds t i s = (k i s f.1).holds same more in record {
        has = within;
        within = subst (λ (es : List Entry). s.entries ≤ length es) e o.within;
        weighs = λ a. weighs_back p t bs ys i s.weight h b x e within
            (o.weighs (subst (λ (es : List Entry). AreAbove s.weight.above (drop s.entries es)) (sym e) a));
      });
    }

front_and_rest : {X : Type 0} (xs ys : List X) → take (length xs) ys ≡ xs → ys ≡ xs ++ drop (length xs) ys
front_and_rest xs ys h = sym (take-append-drop (length xs) ys) ∙ ap (λ zs. zs ++ drop (length xs) ys) h

pub stamps_undone : (p now old t : Table) (s : Store) (stamps new : List (Option Stamp)) (v n e cuts : ℕ) → Remembers p v n e
    → p ≡ now → IsFrontOf now old → t ≡ cut e old → s ≡ record { births = take v t.births; nodes = take n t.nodes }
    → new ≡ take n stamps → AreStamps t stamps cuts → AreStamps (table_with s t.trail) new cuts
stamps_undone p now old t s stamps new v n e cuts m k h i a b g =
    let f : IsFrontOf p old = subst (λ z. IsFrontOf z old) (sym k) h in
    let births : take (length p.births) t.births ≡ p.births = ap (λ (z : Table). take (length p.births) z.births) i ∙ f.births in
    let nodes : take (length p.nodes) t.nodes ≡ p.nodes = ap (λ (z : Table). take (length p.nodes) z.nodes) i ∙ f.nodes in
    let trail : t.trail ≡ p.trail = ap (λ (z : Table). z.trail) i ∙ ap (λ j. take j old.trail) m.entries ∙ f.trail in
    let w : s.births ≡ p.births = ap (λ (z : Store). z.births) a ∙ ap (λ j. take j t.births) m.variables ∙ births in
    let x : s.nodes ≡ p.nodes = ap (λ (z : Store). z.nodes) a ∙ ap (λ j. take j t.nodes) m.nodes ∙ nodes in
    let y : p ≡ table_with s t.trail = λ j. record { births = sym w j; nodes = sym x j; trail = sym trail j } in
    subst (λ z. AreStamps z new cuts) y (stamps_front p t (drop (length p.births) t.births) (drop (length p.nodes) t.nodes) stamps
    new n cuts m.history (front_and_rest p.births t.births births) (front_and_rest p.nodes t.nodes nodes) trail m.nodes b g)
