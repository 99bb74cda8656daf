-- counting the nodes of types
use Rattle.std.proofs.Common.{◌≡◌, ℕ, suc, ◌+◌, ◌<◌, ◌≤◌, List, [], ◌∷◌, ◌++◌, length, refl, sym, ap, ◌∙◌, subst, Some, false, arith, slice_get}
use Rattle.semantic_objects.specs.declared.name.TyId.{TyId}
use Rattle.semantic_objects.specs.declared.name.TyId.TheVariants as id
use Rattle.unification.specs.Types.{Ty, size, size_all}
use Rattle.type_nodes.specs.declared.facts.Facts.{Facts}
use Rattle.type_nodes.specs.declared.node.Node.{Node}
use Rattle.type_nodes.specs.Facts.{capped, facts_of}
use Rattle.type_nodes.specs.Tables.{Table, Has, whole, whole_all, type_of}
use Rattle.type_nodes.specs.Keeping.{IsKept}
use Rattle.type_nodes.proofs.Binding.{node_whole}
use Rattle.sml_types.specs.Sizing.{sizes, HaveAll, Counted}
use Rattle.sml_types.proofs.Frames.{part_has, size_some}
use Rattle.sml_types.proofs.Occurring.{fixed_whole}

pub sizes_append : (t : Table) (xs ys : List TyId) → sizes t (xs ++ ys) ≡ sizes t xs + sizes t ys
sizes_append t [] ys = omega arith
sizes_append t (a ∷ xs) ys = (let k : sizes t (xs ++ ys) ≡ sizes t xs + sizes t ys = sizes_append t xs ys in omega (arith, k))

pub have_append : (t : Table) (xs ys : List TyId) → HaveAll t xs → HaveAll t ys → HaveAll t (xs ++ ys)
have_append t [] ys h k = k
have_append t (a ∷ xs) ys h k = (h.0, have_append t xs ys h.1 k)

pub have_front : (t : Table) (xs ys : List TyId) → HaveAll t (xs ++ ys) → HaveAll t xs × HaveAll t ys
have_front t [] ys h = (tt, h)
have_front t (a ∷ xs) ys h = (let k = have_front t xs ys h.1 in ((h.0, k.0), k.1))

pub sizes_all : (t : Table) (ids : List TyId) → sizes t ids ≡ size_all (whole_all t ids)
sizes_all t [] = refl
sizes_all t (a ∷ ids) = ap (λ n. size (whole t a) + n) (sizes_all t ids)

pub have_each : (t : Table) (ids : List TyId) → ((i : ℕ) (a : TyId) → slice_get ids i ≡ Some a → Has t a) → HaveAll t ids
have_each t [] h = tt
have_each t (a ∷ ids) h = (h 0 a refl, have_each t ids (λ i b e. h (suc i) b e))

pub counted_variable : (t : Table) (a : TyId) (v before : ℕ) (left : List TyId) → whole t a ≡ Ty.Var v → HaveAll t left
    → Counted t a before left left (capped (before + 1))
counted_variable t a v before left e h =
    let n : size (whole t a) ≡ 1 = ap size e in
    record { same = omega (arith, n); less = omega (arith, n); all = h; within = omega arith }

pub counted_fixed : (t : Table) (a : TyId) (i before : ℕ) (f : Facts) (left : List TyId) → IsKept t → whole t (id.Made i) ≡ whole t a
    → f ≡ facts_of t.births (type_of t (id.Made i)) → f.flexible ≡ false → HaveAll t left
    → Counted t a before left left (capped (before + f.size))
counted_fixed t a i before f left k e g b h =
    let n : f.size ≡ capped (size (whole t a)) = ap (λ (x : Facts). x.size) g
    ∙ ap (λ u. capped (size u)) (sym (fixed_whole t i f k g b) ∙ e) in
    let m : 1 ≤ size (whole t a) = size_some (whole t a) in
    record { same = omega (arith, n); less = omega (arith, m); all = h; within = omega arith }

pub subst_have : (t : Table) (new left parts : List TyId) → new ≡ left ++ parts → HaveAll t (left ++ parts) → HaveAll t new
subst_have t new left parts e h = subst (HaveAll t) (sym e) h

pub counted_node : (t : Table) (a : TyId) (i before : ℕ) (x : Node) (left new : List TyId) → IsKept t → whole t (id.Made i) ≡ whole t a
    → slice_get t.nodes i ≡ Some x → new ≡ left ++ x.parts → HaveAll t left → Counted t a before left new (capped (before + 1))
counted_node t a i before x left new k e g b h =
    let n : size (whole t a) ≡ size_all (whole_all t x.parts) + 1 = ap size (sym e ∙ node_whole t i x k.made g) in
    let m : sizes t new ≡ sizes t left + size_all (whole_all t x.parts) = ap (sizes t) b ∙ sizes_append t left x.parts
    ∙ ap (λ z. sizes t left + z) (sizes_all t x.parts) in
    record {
      same = omega (arith, n, m);
      less = omega (arith, n, m);
      all = subst_have t new left x.parts b (have_append t left x.parts h
          (have_each t x.parts (λ j c f. part_has t i j x c k.made g f)));
      within = omega arith;
    }

-- what is left of a count
sizes_length : (t : Table) (ids : List TyId) → length ids ≤ sizes t ids
sizes_length t [] = omega arith
sizes_length t (a ∷ ids) = (let k : length ids ≤ sizes t ids = sizes_length t ids in
    let n : 1 ≤ size (whole t a) = size_some (whole t a) in omega (arith, k, n))

pub large_left : (t : Table) (counted n : ℕ) (left : List TyId) → capped (counted + sizes t left) ≡ capped n → 65537 ≤ length left
    → 65537 ≡ capped n
large_left t counted n left h l = (let k : length left ≤ sizes t left = sizes_length t left in omega (arith, h, l, k))

pub large_counted : (t : Table) (counted n : ℕ) (left : List TyId) → capped (counted + sizes t left) ≡ capped n → 65537 ≤ counted
    → 65537 ≡ capped n
large_counted t counted n left h l = omega (arith, h, l)

pub count_on : (t : Table) (a : TyId) (before after n : ℕ) (old new : List TyId) → Counted t a before old new after
    → capped (before + sizes t (old ++ a ∷ [])) ≡ capped n → capped (after + sizes t new) ≡ capped n
count_on t a before after n old new c h =
    let k : sizes t (old ++ a ∷ []) ≡ sizes t old + sizes t (a ∷ []) = sizes_append t old (a ∷ []) in
    let m : capped (before + (sizes t old + size (whole t a))) ≡ capped (before + sizes t (old ++ a ∷ [])) =
    ap (λ z. capped (before + z)) (let o : sizes t old + size (whole t a) ≡ sizes t (old ++ a ∷ []) = omega (arith, k) in o) in
    c.same ∙ m ∙ h

pub count_less : (t : Table) (a : TyId) (before after : ℕ) (old new : List TyId) → Counted t a before old new after
    → sizes t new < sizes t (old ++ a ∷ [])
count_less t a before after old new c =
    let k : sizes t (old ++ a ∷ []) ≡ sizes t old + sizes t (a ∷ []) = sizes_append t old (a ∷ []) in omega (arith, k, c.less)
