-- going through what is younger than a mark
use Rattle.std.proofs.Common.{◌≡◌, ℕ, zero, suc, ◌+◌, ◌<◌, ◌≤◌, List, [], ◌∷◌, ◌++◌, length, refl, sym, ap, ◌∙◌, subst, Option, Some, true, cond, arith, ◌⊎◌, inl, inr, slice_get, nat_eq}
use Rattle.std.proofs.lemmas.Bool.{eq-eqb, eqb-true}
use Rattle.std.proofs.lemmas.Option.{slice_get_within}
use Rattle.std.specs.Option.{is_some}
use Rattle.semantic_objects.specs.declared.name.TyId.{TyId}
use Rattle.semantic_objects.specs.declared.name.TyId.TheVariants as id
use Rattle.unification.specs.Types.{Ty, occurs, occurs_any, size, size_all}
use Rattle.unification.proofs.Putting.{or_left, or_right, or_either, either_way}
use Rattle.type_nodes.specs.declared.node.Node.{Node}
use Rattle.type_nodes.specs.declared.entry.Entry.TheVariants as entry
use Rattle.type_nodes.specs.Tables.{Table, Has, IsEnd, whole, whole_all, cut}
use Rattle.type_nodes.specs.Keeping.{IsKept, IsHistory, MayStand}
use Rattle.type_nodes.proofs.Making.{get_snoc}
use Rattle.type_nodes.proofs.Binding.{node_whole}
use Rattle.type_schemes.specs.declared.young.Young.{Young}
use Rattle.type_schemes.specs.Reaching.{place_in}
use Rattle.type_schemes.specs.Schemes.{HaveAll}
use Rattle.type_schemes.specs.Ages.{met_node, IsMetEnd, IsMet, IsDue, PartsDue, IsLater, IsOnly, IsWanted, AreWanted, IsStepped, IsOpened, MetNode, IsWalk, HasMet, HaveMet, MetEntries}
use Rattle.type_schemes.proofs.Reaching.{IsSet, set_some, set_it, get_more, node_has, some_same, last_one}

-- ---- items of lists

get_behind : {X : Type 0} (xs ys : List X) (j : ℕ) → slice_get (xs ++ ys) (length xs + j) ≡ slice_get ys j
get_behind [] ys j = ap (slice_get ys) (let e : 0 + j ≡ j = omega arith in e)
get_behind (x ∷ xs) ys j = ap (slice_get (x ∷ xs ++ ys)) (let e : length (x ∷ xs) + j ≡ suc (length xs + j) = omega arith in e)
    ∙ get_behind xs ys j

get_either : {X P : Type 0} (xs ys : List X) (k : ℕ) (x : X) → slice_get (xs ++ ys) k ≡ Some x
    → (slice_get xs k ≡ Some x → P) → ((j : ℕ) → slice_get ys j ≡ Some x → P) → P
get_either [] ys k x h f g = g k h
get_either (z ∷ xs) ys zero x h f g = f h
get_either (z ∷ xs) ys (suc k) x h f g = get_either xs ys k x h f g

have_front : (t : Table) (xs ys : List TyId) → HaveAll t (xs ++ ys) → HaveAll t xs
have_front t xs ys h k a e = h k a (get_more xs ys k a e)

pub have_both : (t : Table) (xs ys : List TyId) → HaveAll t xs → HaveAll t ys → HaveAll t (xs ++ ys)
have_both t xs ys h g k a e = get_either xs ys k a e (h k a) (λ j f. g j a f)

pub last_has : (t : Table) (ids rest : List TyId) (a : TyId) → ids ≡ rest ++ a ∷ [] → HaveAll t ids → Has t a
last_has t ids rest a e h = h (length rest + 0) a (ap (λ z. slice_get z (length rest + 0)) e ∙ get_behind rest (a ∷ []) 0)

-- ---- parts of types

pub occurs_part : {P : Type 0} (t : Table) (ids : List TyId) (v : ℕ) → occurs_any v (whole_all t ids) ≡ true
    → ((k : ℕ) (a : TyId) → slice_get ids k ≡ Some a → occurs v (whole t a) ≡ true → P) → P
occurs_part t [] v h f = absurd (cc)
occurs_part t (a ∷ ids) v h f = or_either (occurs v (whole t a)) (occurs_any v (whole_all t ids)) h (λ e. f 0 a refl e)
    (λ e. occurs_part t ids v e (λ k b g o. f (suc k) b g o))

pub part_occurs : (t : Table) (ids : List TyId) (v k : ℕ) (a : TyId) → slice_get ids k ≡ Some a → occurs v (whole t a) ≡ true
    → occurs_any v (whole_all t ids) ≡ true
part_occurs t [] v k a e h = absurd (cc)
part_occurs t (b ∷ ids) v zero a e h = let f : a ≡ b = cc in
    or_left (occurs v (whole t b)) (occurs_any v (whole_all t ids)) (subst (λ z. occurs v (whole t z) ≡ true) f h)
part_occurs t (b ∷ ids) v (suc k) a e h = or_right (occurs v (whole t b)) (occurs_any v (whole_all t ids)) (part_occurs t ids v k a e h)

pub part_size : (t : Table) (ids : List TyId) (k : ℕ) (a : TyId) → slice_get ids k ≡ Some a
    → size (whole t a) ≤ size_all (whole_all t ids)
part_size t [] k a e = absurd (cc)
part_size t (b ∷ ids) zero a e = let f : a ≡ b = cc in
    let n : size (whole t a) ≡ size (whole t b) = ap (λ z. size (whole t z)) f in omega (arith, n)
part_size t (b ∷ ids) (suc k) a e = let n : size (whole t a) ≤ size_all (whole_all t ids) = part_size t ids k a e in omega (arith, n)

sizes_append : (t : Table) (xs ys : List TyId)
    → size_all (whole_all t (xs ++ ys)) ≡ size_all (whole_all t xs) + size_all (whole_all t ys)
sizes_append t [] ys = omega arith
sizes_append t (x ∷ xs) ys =
    let e : size_all (whole_all t (xs ++ ys)) ≡ size_all (whole_all t xs) + size_all (whole_all t ys) = sizes_append t xs ys in
    omega (arith, e)

some_size : (u : Ty) → 1 ≤ size u
some_size (Ty.Var n) = omega arith
some_size (Ty.Made c us) = omega arith

-- ---- what was met stays met

pub later_same : (y : Young) → IsLater y y
later_same y = record { older = refl; settled = refl; nodes = λ i h. h; variables = λ v h. h }

pub later_then : (a b c : Young) → IsLater a b → IsLater b c → IsLater a c
later_then a b c h k = record {
  older = k.older ∙ h.older;
  settled = k.settled ∙ h.settled;
  nodes = λ i e. k.nodes i (h.nodes i e);
  variables = λ v e. k.variables v (h.variables v e);
}

end_later : (t : Table) (old new : Young) (a : TyId) → IsLater old new → IsMetEnd t old a → IsMetEnd t new a
end_later t old new (id.Variable v) l h =
    λ k. l.variables v (h (let e : new.older ≡ old.older = l.older in omega (arith, e, k)))
end_later t old new (id.Made i) l h =
    λ k m. l.nodes i (h (let e : new.settled ≡ old.settled = l.settled in omega (arith, e, k)) m)

pub met_later : (t : Table) (old new : Young) (a : TyId) → IsLater old new → IsMet t old a → IsMet t new a
met_later t old new a l h = record {
  end = h.end;
  has = h.has;
  is_end = h.is_end;
  same = h.same;
  met = end_later t old new h.end l h.met;
}

due_later : (t : Table) (old new : Young) (ids : List TyId) (a : TyId) → IsLater old new → IsDue t old ids a → IsDue t new ids a
due_later t old new ids a l (inl m) = inl (met_later t old new a l m)
due_later t old new ids a l (inr e) = inr e

popped_at : (t : Table) (y : Young) (ids : List TyId) (a b : TyId) (k : ℕ) → IsMet t y a
    → (slice_get ids k ≡ Some b) ⊎ ((k ≡ length ids) × (a ≡ b)) → IsDue t y ids b
popped_at t y ids a b k m (inl e) = inr (k, e)
popped_at t y ids a b k m (inr e) = inl (subst (IsMet t y) e.1 m)

due_popped : (t : Table) (y : Young) (ids : List TyId) (a b : TyId) → IsMet t y a → IsDue t y (ids ++ a ∷ []) b → IsDue t y ids b
due_popped t y ids a b m (inl h) = inl h
due_popped t y ids a b m (inr e) = popped_at t y ids a b e.0 m (get_snoc ids a b e.0 e.1)

due_more : (t : Table) (y : Young) (ids more : List TyId) (b : TyId) → IsDue t y ids b → IsDue t y (ids ++ more) b
due_more t y ids more b (inl h) = inl h
due_more t y ids more b (inr e) = inr (e.0, get_more ids more e.0 b e.1)

due_none : (t : Table) (y : Young) (a : TyId) → IsDue t y [] a → IsMet t y a
due_none t y a (inl h) = h
due_none t y a (inr e) = absurd (let f : slice_get {X = TyId} [] e.0 ≡ Some a = e.1 in cc)

-- ---- a step

stepped_same : (t : Table) (a : TyId) (y : Young) (ids : List TyId) → IsMet t y a → IsStepped t a y y ids ids
stepped_same t a y ids m = record {
  later = later_same y;
  met = m;
  due = λ b h. due_popped t y ids a b m h;
  parts = λ h i j x b e f g. due_popped t y ids a b m (h i j x b e f g);
  only = λ want w h. h;
  wanted = λ want w h. h;
  have = λ h. h;
  less = (let k : 1 ≤ size (whole t a) = some_size (whole t a) in omega (arith, k));
}

pub stepped_still : (t : Table) (a : TyId) (old new : Young) (before after : List TyId) → new ≡ old → after ≡ before
    → IsMet t old a → IsStepped t a old new before after
stepped_still t a old new before after e f m = subst (λ z. IsStepped t a old z before after) (sym e)
    (subst (λ z. IsStepped t a old old before z) (sym f) (stepped_same t a old before m))

-- a variable that was there before
pub stepped_older : (t : Table) (a : TyId) (v : ℕ) (y : Young) (ids : List TyId) → whole t (id.Variable v) ≡ whole t a
    → Has t (id.Variable v) → IsEnd t (id.Variable v) → v < y.older → IsStepped t a y y ids ids
stepped_older t a v y ids e has end l = stepped_same t a y ids (record {
  end = id.Variable v;
  has = has;
  is_end = end;
  same = e;
  met = λ k. absurd (omega (arith, k, l));
})

set_only : {P : Type 0} (n m p : ℕ) (o : Option ℕ) → is_some (cond (nat_eq n m) (Some p) o) ≡ true
    → (is_some o ≡ true → P) → (n ≡ m → P) → P
set_only n m p o h f g = either_way (nat_eq n m) (λ e. g (eqb-true n m e))
    (λ e. f (sym (ap (λ b. is_some (cond b (Some p) o)) e) ∙ h))

-- one that is new
pub stepped_variable : (t : Table) (a : TyId) (v p : ℕ) (old new : Young) (ids : List TyId) → IsSet old.variables new.variables v p
    → new.older ≡ old.older → new.settled ≡ old.settled → new.nodes ≡ old.nodes
    → whole t (id.Variable v) ≡ whole t a → Has t (id.Variable v) → IsEnd t (id.Variable v) → IsStepped t a old new ids ids
stepped_variable t a v p old new ids set older settled nodes e has end =
    let l : IsLater old new = record {
      older = older;
      settled = settled;
      nodes = λ i h. ap (λ z. is_some (place_in z i)) nodes ∙ h;
      variables = λ w h. ap is_some (set w) ∙ set_some v w p (place_in old.variables w) h;
    } in
    let m : IsMet t new a = record {
      end = id.Variable v;
      has = has;
      is_end = end;
      same = e;
      met = λ k. ap is_some (set v) ∙ set_it v p (place_in old.variables v);
    } in
    record {
      later = l;
      met = m;
      due = λ b h. due_popped t new ids a b m (due_later t old new (ids ++ a ∷ []) b l h);
      parts = λ h i j x b f g k. due_popped t new ids a b m (due_later t old new (ids ++ a ∷ []) b l
          (h i j x b (sym (ap (λ z. is_some (place_in z i)) nodes) ∙ f) g k));
      only = λ want w h u f. set_only v u p (place_in old.variables u) (sym (ap is_some (set u)) ∙ f) (h u)
          (λ k. w u (ap (occurs u) (sym e ∙ end.1) ∙ eq-eqb u v (sym k)));
      wanted = λ want w h. h;
      have = λ h. h;
      less = (let k : 1 ≤ size (whole t a) = some_size (whole t a) in omega (arith, k));
    }

-- a node
opened_later : (t : Table) (i : ℕ) (old new : Young) (before after : List TyId) → IsOpened t i old new before after → IsLater old new
opened_later t i old new before after o = record {
  older = o.older;
  settled = o.settled;
  nodes = o.more;
  variables = λ v h. ap (λ z. is_some (place_in z v)) o.variables ∙ h;
}

opened_part : (t : Table) (a : TyId) (i k j : ℕ) (x : Node) (b : TyId) (old new : Young) (before after : List TyId)
    → IsOpened t i old new before after → IsMet t new a → PartsDue t old (before ++ a ∷ []) → slice_get t.nodes k ≡ Some x
    → slice_get x.parts j ≡ Some b → (met_node old k ≡ true) ⊎ (i ≡ k) → IsDue t new after b
opened_part t a i k j x b old new before after o m h f g (inl e) = subst (λ z. IsDue t new z b) (sym o.ids)
    (due_more t new before o.node.parts b (due_popped t new before a b m
    (due_later t old new (before ++ a ∷ []) b (opened_later t i old new before after o) (h k j x b e f g))))
opened_part t a i k j x b old new before after o m h f g (inr e) =
    let same : o.node ≡ x = some_same o.node x (sym o.at ∙ ap (slice_get t.nodes) e ∙ f) in
    inr (
      length before + j,
      ap (λ z. slice_get z (length before + j)) o.ids ∙ get_behind before o.node.parts j
          ∙ ap (λ (z : Node). slice_get z.parts j) same ∙ g,
    )

stepped_open : (t : Table) (a : TyId) (i : ℕ) (old new : Young) (before after : List TyId) → IsKept t
    → whole t (id.Made i) ≡ whole t a → IsOpened t i old new before after → IsStepped t a old new before after
stepped_open t a i old new before after k e o =
    let type : whole t a ≡ Ty.Made o.node.symbol (whole_all t o.node.parts) = sym e ∙ node_whole t i o.node k.made o.at in
    let l : IsLater old new = opened_later t i old new before after o in
    let m : IsMet t new a = record {
      end = id.Made i;
      has = slice_get_within t.nodes i o.node o.at;
      is_end = tt;
      same = e;
      met = λ _ _. o.it;
    } in
    record {
      later = l;
      met = m;
      due = λ b h. subst (λ z. IsDue t new z b) (sym o.ids) (due_more t new before o.node.parts b
          (due_popped t new before a b m (due_later t old new (before ++ a ∷ []) b l h)));
      parts = λ h j n x b f g c. opened_part t a i j n x b old new before after o m h g c (o.only j f);
      only = λ want w h v f. h v (sym (ap (λ z. is_some (place_in z v)) o.variables) ∙ f);
      wanted = λ want w h. subst (AreWanted t want) (sym o.ids) (λ n b f. get_either before o.node.parts n b f (h n b)
          (λ j g v c. w v (ap (occurs v) type ∙ part_occurs t o.node.parts v j b g c)));
      have = λ h. subst (HaveAll t) (sym o.ids) (have_both t before o.node.parts h (node_has t i o.node k.made o.at));
      less = (let s : size (whole t a) ≡ size_all (whole_all t o.node.parts) + 1 = ap size type in
          let n : size_all (whole_all t after) ≡ size_all (whole_all t (before ++ o.node.parts)) = ap (λ z. size_all (whole_all t z)) o.ids in
          let p : size_all (whole_all t (before ++ o.node.parts)) ≡ size_all (whole_all t before) + size_all (whole_all t o.node.parts) =
          sizes_append t before o.node.parts in
          omega (arith, s, n, p));
    }

pub stepped_node : (t : Table) (a : TyId) (i : ℕ) (old new : Young) (before after : List TyId) → IsKept t
    → i < length t.nodes → whole t (id.Made i) ≡ whole t a → MetNode t i old new before after → IsStepped t a old new before after
stepped_node t a i old new before after k l e (inl p) = stepped_still t a old new before after p.same p.ids
    (record { end = id.Made i; has = l; is_end = tt; same = e; met = p.met })
stepped_node t a i old new before after k l e (inr o) = stepped_open t a i old new before after k e o

pub opened : (t : Table) (i p : ℕ) (x : Node) (old new : Young) (before after : List TyId) → slice_get t.nodes i ≡ Some x
    → IsSet old.nodes new.nodes i p → new.older ≡ old.older → new.settled ≡ old.settled → new.variables ≡ old.variables
    → after ≡ before ++ x.parts → IsOpened t i old new before after
opened t i p x old new before after at set older settled variables ids = record {
  node = x;
  at = at;
  older = older;
  settled = settled;
  variables = variables;
  more = λ j h. ap is_some (set j) ∙ set_some i j p (place_in old.nodes j) h;
  it = ap is_some (set i) ∙ set_it i p (place_in old.nodes i);
  only = λ j h. set_only i j p (place_in old.nodes j) (sym (ap is_some (set j)) ∙ h) (λ e. inl e) (λ e. inr e);
  ids = ids;
}

-- ---- all steps

some_at : (k : ℕ) (a b : TyId) → slice_get (a ∷ []) k ≡ Some b → a ≡ b
some_at zero a b h = cc
some_at (suc k) a b h = absurd (cc)

pub walk_begins : (t : Table) (a : TyId) (y : Young) (ids : List TyId) → Has t a → ids ≡ a ∷ [] → IsWalk t a y y ids
walk_begins t a y ids has e = subst (IsWalk t a y y) (sym e) (record {
  later = later_same y;
  due = inr (0, refl);
  parts = λ h i j x b f g k. inl (due_none t y b (h i j x b f g k));
  only = λ want w h. (h, λ k b f. (let i = some_at k a b f in subst (IsWanted t want) i w));
  have = λ k b f. subst (Has t) (some_at k a b f) has;
})

pub walk_on : (t : Table) (a x : TyId) (old mid new : Young) (ids rest after : List TyId) → IsWalk t a old mid ids
    → ids ≡ rest ++ x ∷ [] → IsStepped t x mid new rest after → IsWalk t a old new after
walk_on t a x old mid new ids rest after w e s = record {
  later = later_then old mid new w.later s.later;
  due = s.due a (subst (λ z. IsDue t mid z a) e w.due);
  parts = λ h. s.parts (subst (PartsDue t mid) e (w.parts h));
  only = λ want k h. (let both : IsOnly want mid × AreWanted t want ids = w.only want k h in
      let all : AreWanted t want (rest ++ x ∷ []) = subst (AreWanted t want) e both.1 in
      let this : IsWanted t want x = all (length rest + 0) x (get_behind rest (x ∷ []) 0) in
      (s.only want this both.0, s.wanted want this (λ n b f. all n b (get_more rest (x ∷ []) n b f))));
  have = s.have (have_front t rest (x ∷ []) (subst (HaveAll t) e w.have));
}

pub walk_less : (t : Table) (x : TyId) (old new : Young) (ids rest after : List TyId) → ids ≡ rest ++ x ∷ []
    → IsStepped t x old new rest after → size_all (whole_all t after) < size_all (whole_all t ids)
walk_less t x old new ids rest after e s =
    let n : size_all (whole_all t ids) ≡ size_all (whole_all t (rest ++ x ∷ [])) = ap (λ z. size_all (whole_all t z)) e in
    let m : size_all (whole_all t (rest ++ x ∷ [])) ≡ size_all (whole_all t rest) + (size (whole t x) + 0) = sizes_append t rest (x ∷ []) in
    omega (arith, n, m, s.less)

pub walk_done : (t : Table) (a : TyId) (old new : Young) (ids : List TyId) → ids ≡ [] → IsWalk t a old new ids → HasMet t a old new
walk_done t a old new ids e w = record {
  later = w.later;
  met = due_none t new a (subst (λ z. IsDue t new z a) e w.due);
  parts = λ h. subst (PartsDue t new) e (w.parts h);
  only = λ want k h. (w.only want k h).0;
}

-- ---- several ids

pub have_none : (t : Table) (ids : List TyId) (y : Young) → HaveMet t ids 0 y y
have_none t ids y = record {
  later = later_same y;
  met = λ k a l. absurd (omega (arith, l));
  parts = λ h. h;
  only = λ want w h. h;
}

pub have_next : (t : Table) (ids : List TyId) (n : ℕ) (a : TyId) (old mid new : Young) → HaveMet t ids n old mid
    → slice_get ids n ≡ Some a → HasMet t a mid new → HaveMet t ids (n + 1) old new
have_next t ids n a old mid new h e m = record {
  later = later_then old mid new h.later m.later;
  met = λ k b l f. last_one k n l (λ i. met_later t mid new b m.later (h.met k b i f))
      (λ i. subst (IsMet t new) (some_same a b (sym e ∙ sym (ap (slice_get ids) i) ∙ f)) m.met);
  parts = λ p. m.parts (h.parts p);
  only = λ want w o. m.only want (w n a e) (h.only want w o);
}

-- ---- entries

pub entries_none : (t : Table) (from : ℕ) (y : Young) → MetEntries t from from y y
entries_none t from y = record {
  ordered = omega arith;
  later = later_same y;
  met = λ k v a l m. absurd (omega (arith, l, m));
  parts = λ h. h;
  only = λ want w h. h;
}

pub entries_then : (t : Table) (from at : ℕ) (old mid new : Young) → MetEntries t from at old mid
    → MetEntries t at (at + 1) mid new → MetEntries t from (at + 1) old new
entries_then t from at old mid new h m = record {
  ordered = (let le : from ≤ at = h.ordered in omega (arith, le));
  later = later_then old mid new h.later m.later;
  met = λ k v a l n e y. last_one k at n (λ i. met_later t mid new a m.later (h.met k v a l i e y))
      (λ i. m.met k v a (omega (arith, i)) n e (subst (λ z. v < z) (sym h.later.older) y));
  parts = λ p. m.parts (h.parts p);
  only = λ want w o. m.only want (λ k v a l n e y. w k v a (let le : from ≤ at = h.ordered in omega (arith, l, le)) n e (subst (λ z. v < z) h.later.older y))
      (h.only want (λ k v a l n e y. w k v a l (omega (arith, n)) e y) o);
}

entry_is : (v w : ℕ) (a b : TyId) → Some (entry.Bound v a) ≡ Some (entry.Bound w b) → (v ≡ w) × (a ≡ b)
entry_is v w a b h = (cc, cc)

one_entry : {P : Type 0} (at k : ℕ) → at ≤ k → k < at + 1 → (k ≡ at → P) → P
one_entry at k l m f = f (omega (arith, l, m))

pub entry_met : (t : Table) (at v : ℕ) (a : TyId) (old new : Young) → slice_get t.trail at ≡ Some (entry.Bound v a)
    → v < old.older → HasMet t a old new → MetEntries t at (at + 1) old new
entry_met t at v a old new e l h = record {
  ordered = omega arith;
  later = h.later;
  met = λ k w b m n f y. one_entry at k m n (λ i. subst (IsMet t new)
      (entry_is v w a b (sym e ∙ sym (ap (slice_get t.trail) i) ∙ f)).1 h.met);
  parts = h.parts;
  only = λ want w o. h.only want (w at v a (omega arith) (omega arith) e l) o;
}

pub entry_younger : (t : Table) (at v : ℕ) (a : TyId) (y : Young) → slice_get t.trail at ≡ Some (entry.Bound v a)
    → y.older ≤ v → MetEntries t at (at + 1) y y
entry_younger t at v a y e l = record {
  ordered = omega arith;
  later = later_same y;
  met = λ k w b m n f g. one_entry at k m n (λ i.
      let same : v ≡ w = (entry_is v w a b (sym e ∙ sym (ap (slice_get t.trail) i) ∙ f)).0 in absurd (omega (arith, same, g, l)));
  parts = λ h. h;
  only = λ want w h. h;
}

entry_not : (v w : ℕ) (b : TyId) → Some (entry.Marked v) ≡ Some (entry.Bound w b) → ⊥
entry_not v w b h = cc

pub entry_marked : (t : Table) (at v : ℕ) (y : Young) → slice_get t.trail at ≡ Some (entry.Marked v) → MetEntries t at (at + 1) y y
entry_marked t at v y e = record {
  ordered = omega arith;
  later = later_same y;
  met = λ k w b m n f g. one_entry at k m n (λ i. absurd (entry_not v w b (sym e ∙ sym (ap (slice_get t.trail) i) ∙ f)));
  parts = λ h. h;
  only = λ want w h. h;
}

pub entry_has : (t : Table) (k v : ℕ) (a : TyId) → IsHistory t → slice_get t.trail k ≡ Some (entry.Bound v a) → Has t a
entry_has t k v a h e = (let m : MayStand (cut k t) v a = h.follows k (entry.Bound v a) e in m.has)
