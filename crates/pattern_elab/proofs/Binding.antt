-- The variables of a pattern by name, in the order in which they are bound.
use Rattle.std.proofs.Common.{◌≡◌, ℕ, List, [], ◌∷◌, ◌++◌, refl, sym, ap, ◌∙◌, Option, Some, None, Bool, true, false, cond, subst, length, ap₂}
use Rattle.std.specs.Prelude.{take}
use Rattle.std.proofs.Math.Seq.{take-length}
use Rattle.std.specs.Option.{is_some}
use Rattle.cm_base.specs.declared.fault.Fault.{Fault}
use Rattle.sml_trees.specs.declared.name.At.{At}
use Rattle.semantic_objects.specs.declared.name.TyId.{TyId}
use Rattle.unification.specs.Types.{Ty, State}
use Rattle.unification.specs.Instances.{with_variable}
use Rattle.type_nodes.specs.Tables.{Table, type_of}
use Rattle.sml_modules.specs.Graphs.{Graph}
use Rattle.std.specs.Prelude.{◌||◌, Err}
use Rattle.std.specs.Cmp.Lexicographic.{nat_list_eq_equiv, same_text as same_bytes}
use Rattle.semantic_objects.specs.Symbols.{same_text}
use Rattle.semantic_objects.proofs.Same.{text_is, text_same}
use Rattle.name_trails.specs.Trails.{Rows, same, entry_after, last_entry}
use Rattle.static_semantics.specs.BasicTypes.{reserved_names, is_one_of}
use Rattle.static_semantics.specs.Inferring.{Progress, Scope, Bound, named, is_named, gives, diag_at, with_types}
use Rattle.static_semantics.specs.PatternInference.{bind_variable}
use Rattle.type_phrases.specs.Inferred.{KeepsTypes, Refuses, progress, home_scope}
use Rattle.pattern_elab.specs.declared.own.OwnVariable.{OwnVariable}
use Rattle.pattern_elab.specs.Scopes.{own_ty, bound_of}
use Rattle.pattern_elab.specs.Steps.{InferredPat, BindsOn}
use Rattle.type_phrases.proofs.Keeping.{keeps_later}
use Rattle.pattern_elab.proofs.Stepping.{refused}

-- a variable more
pub bound_snoc : (rows : Rows OwnVariable) (name : List ℕ) (own : OwnVariable)
    → bound_of (rows ++ (name, own) ∷ []) ≡ bound_of rows ++ (name, own_ty own) ∷ []
bound_snoc [] name own = refl
bound_snoc (row ∷ rows) name own = ap (λ rest. (row.0, own_ty row.1) ∷ rest) (bound_snoc rows name own)

-- two plain functions say whether two texts are one
texts_alike : (a b : List ℕ) → same_text a b ≡ same b a
texts_alike a b = by_tests (same_text a b) (same b a) refl refl
  where
    by_tests : (c d : Bool) → same_text a b ≡ c → same b a ≡ d → c ≡ d
    by_tests true true e f = refl
    by_tests false false e f = refl
    by_tests true false e f =
        let k : same a a ≡ true = nat_list_eq_equiv.refl a in
        let l : same a a ≡ false = subst (λ z. same z a ≡ false) (sym (text_is a b e)) f in
        absurd (cc)
    by_tests false true e f =
        let k : same_text a a ≡ true = text_same a in
        let l : same_text a a ≡ false = subst (λ z. same_text a z ≡ false) (same_bytes b a (sym f)) e in
        absurd (cc)

-- whether a name is bound
bound_after : (held : Option OwnVariable) (rows : Rows OwnVariable) (name : List ℕ)
    → is_some (entry_after held rows name) ≡ (is_some held || is_named name (bound_of rows))
bound_after None [] name = refl
bound_after (Some own) [] name = refl
bound_after held (row ∷ rows) name =
    bound_after (cond (same row.0 name) (Some row.1) held) rows name
    ∙ by_test (same row.0 name) held
    ∙ ap (λ b. is_some held || is_some (cond b (Some (own_ty row.1)) (named name (bound_of rows))))
    (sym (texts_alike name row.0))
  where
    by_test : (b : Bool) (h : Option OwnVariable)
        → (is_some (cond b (Some row.1) h) || is_named name (bound_of rows))
        ≡ (is_some h || is_some (cond b (Some (own_ty row.1)) (named name (bound_of rows))))
    by_test true None = refl
    by_test true (Some own) = refl
    by_test false h = refl

pub bound_found : (rows : Rows OwnVariable) (name : List ℕ)
    → is_named name (bound_of rows) ≡ is_some (last_entry rows name)
unfolding last_entry
bound_found rows name = sym (bound_after None rows name)

-- ---- a variable that is bound

pub variable_taken : (g : Graph) (at : At) (name : List ℕ) (bound : Bound) (st : Progress) (t : Table)
    (rows : Rows OwnVariable) (e : Fault) → is_one_of reserved_names name ≡ false → is_named name bound ≡ true
    → Refuses g 40 at [] e → InferredPat (bind_variable (home_scope g) at name bound st) (Err e) t rows g
variable_taken g at name bound st t rows e h k j =
    let w : bind_variable (home_scope g) at name bound st ≡ Some (Err (diag_at 40 (home_scope g) at [])) = rw (h, k) in
    subst (λ m. InferredPat m (Err e) t rows g) (sym w)
    (refused g 40 at [] (λ (id : TyId). (type_of t id, bound_of rows, progress t g)) e j)

pub variable_made : (sc : Scope) (at : At) (name : List ℕ) (bound b : Bound) (st : Progress) (u : Ty) (s : State)
    → is_one_of reserved_names name ≡ false → is_named name bound ≡ false → u ≡ Ty.Var st.types.next
    → b ≡ bound ++ (name, Ty.Var st.types.next) ∷ [] → s ≡ with_variable false false st.types
    → bind_variable sc at name bound st ≡ gives (u, b, with_types s st)
variable_made sc at name bound b st u s h k e f d = rw (h, k, e, f, d)

-- ---- what is kept

take_later : {A : Type 0} (a b c : List A) → take (length a) b ≡ a → take (length b) c ≡ b → take (length a) c ≡ a
take_later [] b c h k = refl
take_later (x ∷ a) [] c h k = absurd (cc)
take_later (x ∷ a) (y ∷ b) [] h k = absurd (cc)
take_later {A} (x ∷ a) (y ∷ b) (z ∷ c) h k =
    let i : take (length a) b ≡ a = cc in
    let j : take (length b) c ≡ b = cc in
    let e : y ≡ x = cc in
    let f : z ≡ y = cc in
    ap₂ (λ (w : A) ws. w ∷ ws) (f ∙ e) (take_later a b c i j)

pub binds_only : (a b : Table) (rows : Rows OwnVariable) → KeepsTypes a b → BindsOn a b rows rows
binds_only a b rows h = record { ids = h; front = take-length rows }

pub binds_then : (a b c : Table) (r s q : Rows OwnVariable) → BindsOn a b r s → BindsOn b c s q → BindsOn a c r q
binds_then a b c r s q h k = record {
  ids = keeps_later a b c h.ids k.ids;
  front = take_later r s q h.front k.front;
}

pub binds_after : (a b c : Table) (r s : Rows OwnVariable) → BindsOn a b r s → KeepsTypes b c → BindsOn a c r s
binds_after a b c r s h k = record { ids = keeps_later a b c h.ids k; front = h.front }
