-- what may not be closed by age is what was met
use Rattle.std.proofs.Common.{◌≡◌, ℕ, zero, suc, ◌+◌, ◌<◌, ◌≤◌, List, [], ◌∷◌, ◌++◌, length, refl, sym, ap, ap₂, ◌∙◌, subst, Option, Some, None, Bool, true, false, cond, arith, inl, inr, slice_get, get_or, take}
use Rattle.std.proofs.lemmas.Bool.{eq-eqb, eqb-true, ltb-true, ltb-false}
use Rattle.std.proofs.lemmas.List.{append_assoc}
use Rattle.std.proofs.lemmas.Option.{slice_get-get_or, slice_get_within}
use Rattle.std.proofs.Math.Seq.{take-suc, take-length}
use Rattle.std.specs.Option.{is_some}
use Rattle.std.specs.Prelude.{eqb, ltb, ◌||◌}
use Rattle.semantic_objects.specs.declared.name.TyId.{TyId}
use Rattle.semantic_objects.specs.declared.name.TyId.TheVariants as id
use Rattle.semantic_objects.specs.Trees.{TypeScheme}
use Rattle.semantic_objects.specs.declared.symbol.Symbol.TheVariants as symbol
use Rattle.unification.specs.Types.{Ty, Types, Substitution, put, put_all, occurs, occurs_any, size, size_all}
use Rattle.unification.specs.Closing.{held_below, kept_since, found_in, scheme_over}
use Rattle.unification.proofs.Closing.{found_same}
use Rattle.unification.proofs.Putting.{or_left, or_right, or_either, or_false_left, or_false_right, either_way}
use Rattle.type_nodes.specs.declared.node.Node.{Node}
use Rattle.type_nodes.specs.declared.entry.Entry.{Entry}
use Rattle.type_nodes.specs.declared.entry.Entry.TheVariants as entry
use Rattle.type_nodes.specs.Facts.{has_variable, have_variable, every}
use Rattle.type_nodes.specs.Tables.{Table, Has, IsEnd, IsFrontOf, LinkedTo, state, whole, whole_all, type_of, link, link_after, rank, cut}
use Rattle.type_nodes.specs.Keeping.{IsKept, IsHistory, MayStand, MayFollow}
use Rattle.type_nodes.proofs.Making.{id_more}
use Rattle.type_nodes.proofs.Playing.{link_bound, link_marked}
use Rattle.type_nodes.proofs.Binding.{node_whole}
use Rattle.type_schemes.specs.declared.young.Young.{Young}
use Rattle.type_schemes.specs.declared.kept.Kept.{Kept}
use Rattle.type_schemes.specs.Reaching.{place_in}
use Rattle.type_schemes.specs.Numbering.{keeps, keeps_id}
use Rattle.type_schemes.specs.Schemes.{is_kept, stays_since, scheme_since, schemes_since, is_left, MayBeFirstOf}
use Rattle.type_schemes.specs.Ages.{met_variable, IsMetEnd, IsMet, IsDue, PartsDue, IsOnly, PutSince, HaveMet, MetEntries}
use Rattle.type_schemes.proofs.Reaching.{some_same, last_one}
use Rattle.type_schemes.proofs.Walks.{occurs_part, part_occurs, part_size, met_later}

-- ---- what stands for a variable is what an entry put in

first_entry : Entry
first_entry = entry.Marked 0

link_kept : (t : Table) (n v w : ℕ) (a b : TyId) (c : Bool) → eqb w v ≡ c → link_after w None (take n t.trail) ≡ None
    → link_after v None (take n t.trail) ≡ Some a → cond c (Some b) (link_after v None (take n t.trail)) ≡ Some a
link_kept t n v w a b true e h k =
    let f : None ≡ Some a = sym h ∙ ap (λ z. link_after z None (take n t.trail)) (eqb-true w v e) ∙ k in absurd (cc)
link_kept t n v w a b false e h k = k

link_entry : (t : Table) (n v : ℕ) (a : TyId) (e : Entry) → MayFollow (cut n t) e → link_after v None (take n t.trail) ≡ Some a
    → link_after v None (take n t.trail ++ e ∷ []) ≡ Some a
link_entry t n v a (entry.Bound w b) m h = link_bound v w b None (take n t.trail)
    ∙ link_kept t n v w a b (eqb w v) refl m.at.unlinked h
link_entry t n v a (entry.Marked w) m h = link_marked v w None (take n t.trail) ∙ h

link_to : (t : Table) (k v : ℕ) (a : TyId) (n : ℕ) → IsHistory t → slice_get t.trail k ≡ Some (entry.Bound v a) → k < n
    → n ≤ length t.trail → link_after v None (take n t.trail) ≡ Some a
link_to t k v a zero h e l m = absurd (omega (arith, l))
link_to t k v a (suc n) h e l m =
    let x : Entry = get_or t.trail n first_entry in
    let at : slice_get t.trail n ≡ Some x = slice_get-get_or t.trail n first_entry (omega (arith, m)) in
    ap (link_after v None) (take-suc t.trail n first_entry (omega (arith, m)))
    ∙ last_one k n (omega (arith, l))
    (λ i. link_entry t n v a x (h.follows n x at) (link_to t k v a n h e i (omega (arith, m))))
    (λ i. (let same : entry.Bound v a ≡ x = some_same (entry.Bound v a) x (sym e ∙ ap (slice_get t.trail) i ∙ at) in
    subst (λ z. link_after v None (take n t.trail ++ z ∷ []) ≡ Some a) same
    (link_bound v v a None (take n t.trail)
    ∙ ap (λ b. cond b (Some a) (link_after v None (take n t.trail))) (eq-eqb v v refl))))

put_stands : (t : Table) (k v : ℕ) (a : TyId) → IsKept t → IsHistory t → slice_get t.trail k ≡ Some (entry.Bound v a)
    → (state t).stands v ≡ whole t a
put_stands t k v a g h e = (g.linked v a (ap (link_after v None) (sym (take-length t.trail))
    ∙ link_to t k v a (length t.trail) h e (slice_get_within t.trail k (entry.Bound v a) e) (omega arith))).whole

found_by : {P : Type 0} (w v : ℕ) (b a : TyId) (o : Option TyId) (c : Bool) → eqb w v ≡ c → cond c (Some b) o ≡ Some a
    → (w ≡ v → b ≡ a → P) → (o ≡ Some a → P) → P
found_by w v b a o true e h f g = f (eqb-true w v e) (some_same b a h)
found_by w v b a o false e h f g = g h

link_found : {P : Type 0} (v : ℕ) (o : Option TyId) (es : List Entry) (a : TyId) → link_after v o es ≡ Some a → (o ≡ Some a → P)
    → ((k : ℕ) → slice_get es k ≡ Some (entry.Bound v a) → P) → P
link_found v o [] a h f g = f h
link_found v o (entry.Bound w b ∷ es) a h f g = link_found v (cond (eqb w v) (Some b) o) es a h
    (λ e. found_by w v b a o (eqb w v) refl e (λ i j. g 0 (ap₂ (λ x y. Some (entry.Bound x y)) i j)) f)
    (λ k e. g (suc k) e)
link_found v o (entry.Marked w ∷ es) a h f g = link_found v o es a h f (λ k e. g (suc k) e)

-- ---- what is held

held_one : {P : Type 0} (n : ℕ) (s : Substitution) (v : ℕ) → held_below n s v ≡ true
    → ((w : ℕ) → w < n → occurs v (s w) ≡ true → P) → P
held_one zero s v h f = absurd (cc)
held_one (suc n) s v h f = or_either (occurs v (s n)) (held_below n s v) h (λ e. f n (omega arith) e)
    (λ e. held_one n s v e (λ w l o. f w (omega (arith, l)) o))

held_some : (n : ℕ) (s : Substitution) (v w : ℕ) → w < n → occurs v (s w) ≡ true → held_below n s v ≡ true
held_some zero s v w l o = absurd (omega (arith, l))
held_some (suc n) s v w l o = last_one w n (omega (arith, l))
    (λ i. or_right (occurs v (s n)) (held_below n s v) (held_some n s v w i o))
    (λ i. or_left (occurs v (s n)) (held_below n s v) (sym (ap (λ z. occurs v (s z)) i) ∙ o))

mutual
  bare : (s : Substitution) (v : ℕ) (u : Ty) → has_variable every u ≡ false → occurs v (put s u) ≡ true → ⊥
  bare s v (Ty.Var n) h k = absurd (cc)
  bare s v (Ty.Made c us) h k = bare_all s v us h k

  bare_all : (s : Substitution) (v : ℕ) (us : Types) → have_variable every us ≡ false → occurs_any v (put_all s us) ≡ true → ⊥
  bare_all s v Types.Nil h k = absurd (cc)
  bare_all s v (Types.Cons u us) h k = or_either (occurs v (put s u)) (occurs_any v (put_all s us)) k
      (λ e. bare s v u (or_false_left (has_variable every u) (have_variable every us) h) e)
      (λ e. bare_all s v us (or_false_right (has_variable every u) (have_variable every us) h) e)

-- ---- all that is held was met

pub record IsDone (t p : Table) (y : Young) : Type 0 where
  pub kept : IsKept t
  pub front : IsFrontOf p t
  pub past : IsHistory p
  pub older : y.older ≡ length p.births
  pub settled : y.settled ≡ length p.nodes
  pub parts : PartsDue t y []
  pub roots : PutSince t y.older (length p.trail) (length t.trail) (IsMet t y)

front_less : {X : Type 0} (xs ys : List X) → take (length xs) ys ≡ xs → length xs ≤ length ys
front_less [] ys h = omega arith
front_less (x ∷ xs) [] h = absurd (let e : [] ≡ x ∷ xs = h in cc)
front_less (x ∷ xs) (y ∷ ys) h = (let e : take (length xs) ys ≡ xs = cc in
    let k : length xs ≤ length ys = front_less xs ys e in omega (arith, k))

old_has : (t p : Table) (y : Young) (a : TyId) → IsDone t p y → Has p a → Has t a
old_has t p y a d h = id_more _ _ _ _ a (front_less p.births t.births d.front.births) (front_less p.nodes t.nodes d.front.nodes) h

front_item : {X : Type 0} (xs ys : List X) (k : ℕ) (x : X) → take (length xs) ys ≡ xs → k < length xs → slice_get ys k ≡ Some x
    → slice_get xs k ≡ Some x
front_item [] ys k x h l e = absurd (omega (arith, l))
front_item (z ∷ xs) [] k x h l e = absurd (cc)
front_item (z ∷ xs) (y ∷ ys) zero x h l e = (let f : y ≡ z = cc in sym (ap Some f) ∙ e)
front_item (z ∷ xs) (y ∷ ys) (suc k) x h l e = (let f : take (length xs) ys ≡ xs = cc in
    front_item xs ys k x f (omega (arith, l)) e)

split : {P : Type 0} (n k : ℕ) → (n < k → P) → (k ≤ n → P) → P
split n k f g = either_way (ltb n k) (λ e. f (ltb-true n k e)) (λ e. g (ltb-false n k e))

-- a variable that was there at the mark, by what it is linked to
old_variable : (t p : Table) (y : Young) (w : ℕ) (o : Option TyId) → IsDone t p y → w < length p.births → link t w ≡ o
    → ((b : TyId) → rank t b < rank t (id.Variable w) → Has p b → IsMet t y b) → IsMet t y (id.Variable w)
old_variable t p y w None d l e rec = record {
  end = id.Variable w;
  has = old_has t p y (id.Variable w) d l;
  is_end = (e, d.kept.unlinked w e);
  same = refl;
  met = λ k. absurd (let f : y.older ≡ length p.births = d.older in omega (arith, k, l, f));
}
old_variable t p y w (Some b) d l e rec =
    let at : LinkedTo t w b = d.kept.linked w b e in
    let m : IsMet t y b = link_found w None t.trail b e (λ i. absurd (cc)) (λ k i. split k (length p.trail)
    (λ j. rec b at.falls (let m : MayStand (cut k p) w b = d.past.follows k (entry.Bound w b)
    (front_item p.trail t.trail k (entry.Bound w b) d.front.trail j i) in m.has))
    (λ j. d.roots k w b j (slice_get_within t.trail k (entry.Bound w b) i) i
    (let f : y.older ≡ length p.births = d.older in omega (arith, l, f)))) in
    record { end = m.end; has = m.has; is_end = m.is_end; same = m.same ∙ sym at.whole; met = m.met }

old_met : (t p : Table) (y : Young) → IsDone t p y → (k : ℕ) (a : TyId) → rank t a < k → Has p a → IsMet t y a
old_met t p y d zero a l h = absurd (omega (arith, l))
old_met t p y d (suc k) (id.Variable w) l h = old_variable t p y w (link t w) d h refl
    (λ b m i. old_met t p y d k b (omega (arith, l, m)) i)
old_met t p y d (suc k) (id.Made i) l h = record {
  end = id.Made i;
  has = old_has t p y (id.Made i) d h;
  is_end = tt;
  same = refl;
  met = λ m. absurd (let f : y.settled ≡ length p.nodes = d.settled in omega (arith, m, h, f));
}

pub is_old_met : (t p : Table) (y : Young) (a : TyId) → IsDone t p y → Has p a → IsMet t y a
is_old_met t p y a d h = old_met t p y d (rank t a + 1) a (omega arith) h

due_is : (t : Table) (y : Young) (a : TyId) → IsDue t y [] a → IsMet t y a
due_is t y a (inl h) = h
due_is t y a (inr e) = absurd (let f : slice_get {X = TyId} [] e.0 ≡ Some a = e.1 in cc)

-- parts of a node are met
part_met : (t p : Table) (y : Young) (i j v : ℕ) (x : Node) (b : TyId) → IsDone t p y → IsMetEnd t y (id.Made i)
    → slice_get t.nodes i ≡ Some x → slice_get x.parts j ≡ Some b → occurs v (whole t (id.Made i)) ≡ true → IsMet t y b
part_met t p y i j v x b d m e f o = split i (length p.nodes)
    (λ l. is_old_met t p y b d (id_more _ _ _ _ b (omega arith) (omega (arith, l))
    ((d.past.made.each i x (front_item p.nodes t.nodes i x d.front.nodes l e)).parts j b f)))
    (λ l. either_way (has_variable every (type_of t (id.Made i)))
    (λ h. due_is t y b (d.parts i j x b (m (let g : y.settled ≡ length p.nodes = d.settled in omega (arith, l, g)) h) e f))
    (λ h. absurd (bare (state t).stands v (type_of t (id.Made i)) h o)))

no_node : Node
no_node = record { symbol = symbol.Arrow; parts = [] }

-- each young variable that stands in what was met was
young_end : (t p : Table) (y : Young) → IsDone t p y → (k : ℕ)
    → ((b : TyId) → IsMet t y b → size (whole t b) < k → (v : ℕ) → y.older ≤ v → occurs v (whole t b) ≡ true → met_variable y v ≡ true)
    → (a : TyId) → Has t a → IsEnd t a → IsMetEnd t y a → size (whole t a) < suc k → (v : ℕ) → y.older ≤ v
    → occurs v (whole t a) ≡ true → met_variable y v ≡ true
young_end t p y d k rec (id.Variable w) has end m l v n o =
    let e : v ≡ w = eqb-true v w (sym (ap (occurs v) end.1) ∙ o) in
    subst (λ z. met_variable y z ≡ true) (sym e) (m (omega (arith, e, n)))
young_end t p y d k rec (id.Made i) has end m l v n o =
    let x : Node = get_or t.nodes i no_node in
    let at : slice_get t.nodes i ≡ Some x = slice_get-get_or t.nodes i no_node has in
    let type : whole t (id.Made i) ≡ Ty.Made x.symbol (whole_all t x.parts) = node_whole t i x d.kept.made at in
    occurs_part t x.parts v (sym (ap (occurs v) type) ∙ o) (λ j b f g. rec b
    (part_met t p y i j v x b d m at f o)
    (let s : size (whole t (id.Made i)) ≡ size_all (whole_all t x.parts) + 1 = ap size type in
    let r : size (whole t b) ≤ size_all (whole_all t x.parts) = part_size t x.parts j b f in omega (arith, s, r, l)) v n g)

young_met : (t p : Table) (y : Young) → IsDone t p y → (k : ℕ) (a : TyId) → IsMet t y a → size (whole t a) < k → (v : ℕ)
    → y.older ≤ v → occurs v (whole t a) ≡ true → met_variable y v ≡ true
young_met t p y d zero a m l v n o = absurd (omega (arith, l))
young_met t p y d (suc k) a m l v n o = young_end t p y d k (λ b c q u r f. young_met t p y d k b c q u r f)
    m.end m.has m.is_end m.met
    (let e : size (whole t m.end) ≡ size (whole t a) = ap size m.same in omega (arith, e, l)) v n (ap (occurs v) m.same ∙ o)

pub is_young_met : (t p : Table) (y : Young) (a : TyId) (v : ℕ) → IsDone t p y → IsMet t y a → y.older ≤ v
    → occurs v (whole t a) ≡ true → met_variable y v ≡ true
is_young_met t p y a v d m n o = young_met t p y d (size (whole t a) + 1) a m (omega arith) v n o

-- ---- exactly these

same_truth : (b c : Bool) → (b ≡ true → c ≡ true) → (c ≡ true → b ≡ true) → b ≡ c
same_truth true c f g = sym (f refl)
same_truth false true f g = g refl
same_truth false false f g = refl

or_group : (a b c : Bool) → ((a || b) || c) ≡ (a || (b || c))
or_group true b c = refl
or_group false b c = refl

or_later : (a b c : Bool) → (a ≡ false → b ≡ c) → (a || b) ≡ (a || c)
or_later true b c h = refl
or_later false b c h = h refl

abbrev wants : Table → ℕ → List TyId → ℕ → Bool
wants t n unclosed v = held_below n (state t).stands v || is_kept t unclosed v

wanted_met : (t p : Table) (y : Young) (unclosed : List TyId) (v : ℕ) → IsDone t p y
    → ((k : ℕ) (a : TyId) → slice_get unclosed k ≡ Some a → IsMet t y a) → y.older ≤ v → wants t (length p.births) unclosed v ≡ true
    → met_variable y v ≡ true
wanted_met t p y unclosed v d h n w = or_either (held_below (length p.births) (state t).stands v) (is_kept t unclosed v) w
    (λ e. held_one (length p.births) (state t).stands v e
    (λ u l o. is_young_met t p y (id.Variable u) v d (is_old_met t p y (id.Variable u) d l) n o))
    (λ e. occurs_part t unclosed v e (λ k a f o. is_young_met t p y a v d (h k a f) n o))

stays_by : (t p : Table) (y : Young) (unclosed : List TyId) (v : ℕ) → IsDone t p y
    → ((k : ℕ) (a : TyId) → slice_get unclosed k ≡ Some a → IsMet t y a) → IsOnly (wants t (length p.births) unclosed) y
    → (ltb v (length p.births) || met_variable y v) ≡ stays_since t (length p.births) unclosed v
stays_by t p y unclosed v d h only =
    or_later (ltb v (length p.births)) (met_variable y v) (wants t (length p.births) unclosed v)
    (λ e. same_truth (met_variable y v) (wants t (length p.births) unclosed v) (only v)
    (wanted_met t p y unclosed v d h (let l : length p.births ≤ v = ltb-false v (length p.births) e in
    let f : y.older ≡ length p.births = d.older in omega (arith, l, f))))
    ∙ sym (or_group (ltb v (length p.births)) (held_below (length p.births) (state t).stands v) (is_kept t unclosed v))

none_some : (o : Option ℕ) → o ≡ None → is_some o ≡ true → ⊥
none_some o e h = let k : false ≡ true = sym (ap is_some e) ∙ h in cc

pub stays_exactly : (t p : Table) (start mid y : Young) (kept : Kept) (unclosed : List TyId) (e : ℕ) (v : ℕ) → IsKept t → IsHistory t → IsHistory p
    → IsFrontOf p t → start.older ≡ length p.births → start.settled ≡ length p.nodes → e ≡ length p.trail
    → ((n : ℕ) → place_in start.nodes n ≡ None) → ((n : ℕ) → place_in start.variables n ≡ None)
    → MetEntries t e (length t.trail) start mid → HaveMet t unclosed (length unclosed) mid y
    → kept.older ≡ y.older → kept.variables ≡ y.variables
    → keeps kept v ≡ stays_since t (length p.births) unclosed v
stays_exactly t p start mid y kept unclosed e v k h past front older settled entries none free m s same these =
    let n : y.older ≡ length p.births = s.later.older ∙ m.later.older ∙ older in
    let d : IsDone t p y = record {
      kept = k;
      front = front;
      past = past;
      older = n;
      settled = s.later.settled ∙ m.later.settled ∙ settled;
      parts = s.parts (m.parts (λ i j x a f. absurd (none_some (place_in start.nodes i) (none i) f)));
      roots = λ i w a l r f u. met_later t mid y a s.later (m.met i w a (omega (arith, l, entries)) r f
          (let q : y.older ≡ length p.births = n in omega (arith, u, q, older)));
    } in
    let only : IsOnly (wants t (length p.births) unclosed) y =
    s.only (wants t (length p.births) unclosed)
    (λ j a f u o. or_right (held_below (length p.births) (state t).stands u) (is_kept t unclosed u) (part_occurs t unclosed u j a f o))
    (m.only (wants t (length p.births) unclosed)
    (λ i w a l r f g u o. or_left (held_below (length p.births) (state t).stands u) (is_kept t unclosed u)
    (held_some (length p.births) (state t).stands u w (omega (arith, g, older))
    (ap (occurs u) (put_stands t i w a k h f) ∙ o)))
    (λ u f. absurd (none_some (place_in start.variables u) (free u) f))) in
    ap₂ (λ a b. ltb v a || is_some (place_in b v)) (same ∙ n) these
    ∙ stays_by t p y unclosed v d (λ j a f. s.met j a (slice_get_within unclosed j a f) f) only

-- ---- schemes

or_none : (b : Bool) → (b || false) ≡ b
or_none true = refl
or_none false = refl

pub since_scheme : (t : Table) (n : ℕ) (kept : Kept) (a : TyId) (σ : TypeScheme)
    → ((v : ℕ) → keeps kept v ≡ stays_since t n [] v)
    → σ ≡ scheme_over (found_in (keeps kept) (whole t a) []) (state t).marks (whole t a) → σ ≡ scheme_since t n a
since_scheme t n kept a σ h e = e ∙ ap (λ vs. scheme_over vs (state t).marks (whole t a))
    (found_same (keeps kept) (kept_since n (state t).stands) (whole t a) []
    (λ v o. h v ∙ or_none (kept_since n (state t).stands v)))

pub since_next : (t : Table) (n : ℕ) (a : TyId) (σ : TypeScheme) (old new all : List TypeScheme) (left rest : List TyId)
    → left ≡ a ∷ rest → new ≡ old ++ σ ∷ [] → σ ≡ scheme_since t n a → old ++ schemes_since t n left ≡ all
    → new ++ schemes_since t n rest ≡ all
since_next t n a σ old new all left rest e f g h = ap (λ z. z ++ schemes_since t n rest) f
    ∙ append_assoc old (σ ∷ []) (schemes_since t n rest)
    ∙ ap (λ x. old ++ x ∷ schemes_since t n rest) g
    ∙ ap (λ z. old ++ schemes_since t n z) (sym e) ∙ h

-- ---- variables that are left

pub left_id : (t : Table) (n : ℕ) (kept : Kept) (unclosed : List TyId)
    → ((v : ℕ) → keeps kept v ≡ stays_since t n unclosed v) → (a : TyId) → keeps_id kept a ≡ is_left t n unclosed a
left_id t n kept unclosed h (id.Variable v) = h v
left_id t n kept unclosed h (id.Made i) = refl

pub first_left : (t : Table) (n : ℕ) (kept : Kept) (unclosed own : List TyId) (o : Option ℕ)
    → ((v : ℕ) → keeps kept v ≡ stays_since t n unclosed v) → MayBeFirstOf (keeps_id kept) own o
    → MayBeFirstOf (is_left t n unclosed) own o
first_left t n kept unclosed own o h m =
    let e : keeps_id kept ≡ is_left t n unclosed = λ i a. left_id t n kept unclosed h a i in
    subst (λ f. MayBeFirstOf f own o) e m
