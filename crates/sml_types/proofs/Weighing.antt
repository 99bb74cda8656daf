-- counting the nodes of types with a number above their variables
use Rattle.std.proofs.Common.{◌≡◌, ℕ, suc, ◌+◌, ◌<◌, ◌≤◌, List, [], ◌∷◌, ◌++◌, length, refl, sym, ap, ◌∙◌, subst, Some, true, false, arith, slice_get}
use Rattle.std.proofs.lemmas.Bool.{eqb-true, ltb-true, lt-ltb}
use Rattle.std.specs.Prelude.{ltb, max}
use Rattle.semantic_objects.specs.declared.name.TyId.{TyId}
use Rattle.semantic_objects.specs.declared.name.TyId.TheVariants as id
use Rattle.unification.specs.Types.{Ty, size, size_all, occurs, occurs_any}
use Rattle.unification.proofs.Putting.{or_left, or_right, or_either}
use Rattle.type_nodes.specs.declared.facts.Facts.{Facts}
use Rattle.type_nodes.specs.declared.node.Node.{Node}
use Rattle.type_nodes.specs.declared.stamp.Weight.{Weight}
use Rattle.type_nodes.specs.Facts.{capped, facts_of}
use Rattle.type_nodes.specs.Nodes.{rigid_in}
use Rattle.type_nodes.specs.Tables.{Table, whole, whole_all, type_of}
use Rattle.type_nodes.specs.Keeping.{IsKept}
use Rattle.type_nodes.proofs.Binding.{node_whole}
use Rattle.sml_types.specs.Sizing.{sizes, HaveAll}
use Rattle.sml_types.specs.Weighing.{IsUnder, is_met, Weighed, IsWeightOf}
use Rattle.sml_types.proofs.Frames.{part_has, size_some}
use Rattle.sml_types.proofs.Occurring.{fixed_whole, absent}
use Rattle.sml_types.proofs.Sizing.{sizes_append, sizes_all, have_append, have_each, subst_have}

occurs_either : {P : Type 0} (t : Table) (v : ℕ) (xs ys : List TyId) → occurs_any v (whole_all t (xs ++ ys)) ≡ true
    → (occurs_any v (whole_all t xs) ≡ true → P) → (occurs_any v (whole_all t ys) ≡ true → P) → P
occurs_either t v [] ys h f g = g h
occurs_either t v (a ∷ xs) ys h f g = or_either (occurs v (whole t a)) (occurs_any v (whole_all t (xs ++ ys))) h
    (λ e. f (or_left (occurs v (whole t a)) (occurs_any v (whole_all t xs)) e))
    (λ e. occurs_either t v xs ys e (λ i. f (or_right (occurs v (whole t a)) (occurs_any v (whole_all t xs)) i)) g)

occurs_front : (t : Table) (v : ℕ) (xs ys : List TyId) → occurs_any v (whole_all t xs) ≡ true
    → occurs_any v (whole_all t (xs ++ ys)) ≡ true
occurs_front t v [] ys h = absurd (cc)
occurs_front t v (a ∷ xs) ys h = or_either (occurs v (whole t a)) (occurs_any v (whole_all t xs)) h
    (λ e. or_left (occurs v (whole t a)) (occurs_any v (whole_all t (xs ++ ys))) e)
    (λ e. or_right (occurs v (whole t a)) (occurs_any v (whole_all t (xs ++ ys))) (occurs_front t v xs ys e))

occurs_back : (t : Table) (v : ℕ) (xs ys : List TyId) → occurs_any v (whole_all t ys) ≡ true
    → occurs_any v (whole_all t (xs ++ ys)) ≡ true
occurs_back t v [] ys h = h
occurs_back t v (a ∷ xs) ys h =
    or_right (occurs v (whole t a)) (occurs_any v (whole_all t (xs ++ ys))) (occurs_back t v xs ys h)

below_met : (t : Table) (n : ℕ) (left : List TyId) (v : ℕ) → v < n → is_met t n left v ≡ true
below_met t n left v l = or_left (ltb v n) (occurs_any v (whole_all t left)) (lt-ltb v n l)

left_met : (t : Table) (n : ℕ) (left : List TyId) (v : ℕ) → occurs_any v (whole_all t left) ≡ true → is_met t n left v ≡ true
left_met t n left v h = or_right (ltb v n) (occurs_any v (whole_all t left)) h

-- an id whose size is known
pub weighed_by : (t : Table) (a : TyId) (before by after : Weight) (left : List TyId)
    → after.size ≡ capped (before.size + by.size) → after.above ≡ max before.above by.above
    → by.size ≡ capped (size (whole t a)) → IsUnder t a by.above → HaveAll t left → Weighed t a before left left after
weighed_by t a before by after left e f n u h =
    let m : 1 ≤ size (whole t a) = size_some (whole t a) in
    record {
      same = omega (arith, e, n);
      less = omega (arith, m);
      all = h;
      within = omega (arith, e);
      kept = omega (arith, f);
      left = λ v o. left_met t after.above left v o;
      own = λ v r o. below_met t after.above left v (let l : v < by.above = u v r o in omega (arith, f, l));
    }

pub under_variable : (t : Table) (v : ℕ) → whole t (id.Variable v) ≡ Ty.Var v → IsUnder t (id.Variable v) (v + 1)
under_variable t v e w r o = (let k : w ≡ v = eqb-true w v (subst (λ u. occurs w u ≡ true) e o) in omega (arith, k))

pub under_fixed : (t : Table) (i : ℕ) (f : Facts) → IsKept t → f ≡ facts_of t.births (type_of t (id.Made i))
    → f.flexible ≡ false → IsUnder t (id.Made i) 0
under_fixed t i f k e b v r o =
    let no : occurs v (whole t (id.Made i)) ≡ false = ap (occurs v) (fixed_whole t i f k e b)
    ∙ absent t.births v (type_of t (id.Made i)) r (sym (ap (λ (g : Facts). g.flexible) e) ∙ b) in
    let bad : true ≡ false = sym o ∙ no in absurd (cc)

pub fixed_size : (t : Table) (i : ℕ) (f : Facts) → IsKept t → f ≡ facts_of t.births (type_of t (id.Made i))
    → f.flexible ≡ false → f.size ≡ capped (size (whole t (id.Made i)))
fixed_size t i f k e b = ap (λ (x : Facts). x.size) e ∙ ap (λ u. capped (size u)) (sym (fixed_whole t i f k e b))

-- a node whose parts are left to be counted
pub weighed_parts : (t : Table) (i : ℕ) (before by after : Weight) (x : Node) (left new : List TyId) → IsKept t
    → slice_get t.nodes i ≡ Some x → new ≡ left ++ x.parts → after.size ≡ capped (before.size + by.size)
    → after.above ≡ max before.above by.above → by.size ≡ 1 → HaveAll t left → Weighed t (id.Made i) before left new after
weighed_parts t i before by after x left new k g b e f one h =
    let w = node_whole t i x k.made g in
    let n : size (whole t (id.Made i)) ≡ size_all (whole_all t x.parts) + 1 = ap size w in
    let m : sizes t new ≡ sizes t left + size_all (whole_all t x.parts) = ap (sizes t) b ∙ sizes_append t left x.parts
    ∙ ap (λ z. sizes t left + z) (sizes_all t x.parts) in
    record {
      same = omega (arith, n, m, e, one);
      less = omega (arith, n, m);
      all = subst_have t new left x.parts b (have_append t left x.parts h
          (have_each t x.parts (λ j c d. part_has t i j x c k.made g d)));
      within = omega (arith, e);
      kept = omega (arith, f);
      left = λ v o. left_met t after.above new v
          (subst (λ z. occurs_any v (whole_all t z) ≡ true) (sym b) (occurs_front t v left x.parts o));
      own = λ v r o. left_met t after.above new v (subst (λ z. occurs_any v (whole_all t z) ≡ true) (sym b)
          (occurs_back t v left x.parts (subst (λ u. occurs v u ≡ true) w o)));
    }

-- the same of another id that stands for the same
pub weighed_alike : (t : Table) (a b : TyId) (before after : Weight) (old new : List TyId) → whole t a ≡ whole t b
    → Weighed t a before old new after → Weighed t b before old new after
weighed_alike t a b before after old new e c = record {
  same = subst (λ u. capped (after.size + sizes t new) ≡ capped (before.size + (sizes t old + size u))) e c.same;
  less = subst (λ u. sizes t new < sizes t old + size u) e c.less;
  all = c.all;
  within = c.within;
  kept = c.kept;
  left = c.left;
  own = λ v r o. c.own v r (subst (λ u. occurs v u ≡ true) (sym e) o);
}

-- what is met stays met
pub met_on : (t : Table) (a : TyId) (before after : Weight) (old new : List TyId) → Weighed t a before old new after
    → (v : ℕ) → rigid_in t.births v ≡ false → is_met t before.above (old ++ a ∷ []) v ≡ true → is_met t after.above new v ≡ true
met_on t a before after old new c v r h =
    or_either (ltb v before.above) (occurs_any v (whole_all t (old ++ a ∷ []))) h
    (λ e. below_met t after.above new v (let l : v < before.above = ltb-true v before.above e in let k = c.kept in omega (arith, l, k)))
    (λ e. occurs_either t v old (a ∷ []) e (c.left v)
    (λ o. or_either (occurs v (whole t a)) false o (c.own v r) (λ z. absurd (cc))))

-- what is left of a count
pub weigh_on : (t : Table) (a : TyId) (before after : Weight) (n : ℕ) (old new : List TyId) → Weighed t a before old new after
    → capped (before.size + sizes t (old ++ a ∷ [])) ≡ capped n → capped (after.size + sizes t new) ≡ capped n
weigh_on t a before after n old new c h =
    let k : sizes t (old ++ a ∷ []) ≡ sizes t old + sizes t (a ∷ []) = sizes_append t old (a ∷ []) in
    let m : capped (before.size + (sizes t old + size (whole t a))) ≡ capped (before.size + sizes t (old ++ a ∷ [])) =
    ap (λ z. capped (before.size + z)) (let o : sizes t old + size (whole t a) ≡ sizes t (old ++ a ∷ []) = omega (arith, k) in o) in
    c.same ∙ m ∙ h

pub weigh_less : (t : Table) (a : TyId) (before after : Weight) (old new : List TyId) → Weighed t a before old new after
    → sizes t new < sizes t (old ++ a ∷ [])
weigh_less t a before after old new c =
    let k : sizes t (old ++ a ∷ []) ≡ sizes t old + sizes t (a ∷ []) = sizes_append t old (a ∷ []) in omega (arith, k, c.less)
