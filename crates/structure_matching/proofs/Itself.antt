-- What is found is as it is specified where it is the thing that is specified.
use Rattle.std.proofs.Common.{◌≡◌, ℕ, refl, sym, ap, ap₂, ◌∙◌, subst, List, [], ◌∷◌, Option, Some, None, Bool, true, false, ◌&&◌, eqb, cond}
use Rattle.std.specs.Option.{is_some}
use Rattle.std.proofs.lemmas.Bool.{eq-eqb, eqb-true}
use Rattle.semantic_objects.specs.declared.entry.ConEntry.{ConEntry}
use Rattle.semantic_objects.specs.declared.entry.TypeStr.{TypeStr}
use Rattle.semantic_objects.specs.declared.entry.ValueEntry.{ValueEntry}
use Rattle.semantic_objects.specs.declared.entry.VidStatus.{VidStatus}
use Rattle.semantic_objects.specs.declared.entry.VidStatus.TheVariants as status
use Rattle.semantic_objects.specs.Symbols.{same_list, same_bool}
use Rattle.semantic_objects.specs.Trees.{Tree, Trees, TypeScheme}
use Rattle.semantic_objects.proofs.Same.{text_same, symbol_same}
use Rattle.env_parts.specs.Types.{holds_free}
use Rattle.unification.specs.Types.{State}
use Rattle.unification.specs.Instances.{mark_of}
use Rattle.unification.specs.Closing.{canonical_scheme}
use Rattle.unification.specs.Generality.{same_tree, Found, nothing_found, with_found, match_variable, match_then, match_tree, match_trees, may_stand, covers}
use Rattle.unification.proofs.Filling.{tree_same}
use Rattle.static_semantics.specs.EnvironmentsPut.{put_value}
use Rattle.module_semantics.specs.Matching.{same_scheme, same_con, has_cons, fits_type, has_status, fits_value}
use Rattle.structure_matching.proofs.RealisingSteps.{put_same}

marks_same : (marks : List Bool) → same_list same_bool marks marks ≡ true
marks_same [] = refl
marks_same (true ∷ marks) = marks_same marks
marks_same (false ∷ marks) = marks_same marks

scheme_same : (σ : TypeScheme) → same_scheme σ σ ≡ true
scheme_same σ = ap₂ (λ x y. x && y) (marks_same σ.marks) (tree_same σ.body)

cons_same : (cons : List ConEntry) → same_list same_con cons cons ≡ true
cons_same [] = refl
cons_same (con ∷ cons) = ap₂ (λ x y. x && y)
    (ap₂ (λ x y. x && y) (text_same con.name) (scheme_same (canonical_scheme con.scheme))) (cons_same cons)

all_there : (cons : List ConEntry) → has_cons cons cons ≡ true
all_there [] = refl
all_there (con ∷ cons) = cons_same (con ∷ cons)

pub fits_itself : (str : TypeStr) → fits_type str str ≡ true
fits_itself str = ap₂ (λ x y. x && y)
    (ap₂ (λ x y. x && y) (eq-eqb str.function.arity str.function.arity refl) (tree_same str.function.body))
    (all_there str.cons)

-- ---- values

-- what was found for variables is themselves
abbrev Stays : Found → Type 0
Stays f = (i : ℕ) (t : Tree) → f i ≡ Some t → t ≡ Tree.Bound i

record Finds (o : Option Found) : Type 0 where
  pub found : Found
  pub is : o ≡ Some found
  pub stays : Stays found

stays_more : (f : Found) (i : ℕ) → Stays f → Stays (with_found i (Tree.Bound i) f)
stays_more f i h j t e = one (eqb i j) refl e
  where
    one : (b : Bool) → eqb i j ≡ b → cond b (Some (Tree.Bound i)) (f j) ≡ Some t → t ≡ Tree.Bound j
    one true k e = (let is : Tree.Bound i ≡ t = cc in sym is ∙ ap Tree.Bound (eqb-true i j k))
    one false k e = h j t e

variable_itself : (may : Bool) (i : ℕ) (f : Found) (o : Option Tree) → may ≡ true → f i ≡ o → Stays f
    → Finds (match_variable may i (Tree.Bound i) f o)
variable_itself false i f o m e h = absurd (cc)
variable_itself true i f None m e h =
    record { found = with_found i (Tree.Bound i) f; is = refl; stays = stays_more f i h }
variable_itself true i f (Some u) m e h = record {
  found = f;
  is = ap (λ b. cond b (Some f) None) (ap (λ z. same_tree z (Tree.Bound i)) (h i u e) ∙ eq-eqb i i refl);
  stays = h;
}

mutual
  tree_itself : (may : ℕ → Tree → Bool) → ((i : ℕ) → may i (Tree.Bound i) ≡ true) → (x : Tree) (f : Found) → Stays f
      → Finds (match_tree may x x f)
  tree_itself may ok (Tree.Bound i) f h = variable_itself (may i (Tree.Bound i)) i f (f i) (ok i) refl h
  tree_itself may ok (Tree.Free n) f h =
      record { found = f; is = ap (λ b. cond b (Some f) None) (eq-eqb n n refl); stays = h }
  tree_itself may ok (Tree.Made c xs) f h =
      subst Finds (sym (ap (λ b. cond b (match_trees may xs xs f) None) (symbol_same c))) (trees_itself may ok xs f h)

  trees_itself : (may : ℕ → Tree → Bool) → ((i : ℕ) → may i (Tree.Bound i) ≡ true) → (xs : Trees) (f : Found)
      → Stays f → Finds (match_trees may xs xs f)
  trees_itself may ok Trees.Nil f h = record { found = f; is = refl; stays = h }
  trees_itself may ok (Trees.Cons x xs) f h =
      (let first : Finds (match_tree may x x f) = tree_itself may ok x f h in
      subst Finds (sym (ap (λ o. match_then o (match_trees may xs xs)) first.is))
      (trees_itself may ok xs first.found first.stays))

covers_itself : (s : State) (σ : TypeScheme) → covers s σ σ ≡ true
covers_itself s σ =
    (let all : Finds (match_tree (may_stand s σ σ) σ.body σ.body nothing_found) =
    tree_itself (may_stand s σ σ) (λ i. may (mark_of σ.marks i)) σ.body nothing_found (λ i t e. absurd (cc)) in
    ap is_some all.is)
  where
    may : (b : Bool) → cond b b true ≡ true
    may true = refl
    may false = refl

status_itself : (v : VidStatus) → has_status v v ≡ true
status_itself status.Variable = refl
status_itself status.Constructor = refl
status_itself status.Exception = refl

-- a value in which no variable of a table stands fits itself as it is known
pub value_fits_itself : (s : State) (value : ValueEntry) → holds_free value.scheme.body ≡ false
    → fits_value s value (put_value s.stands value) ≡ true
value_fits_itself s value h =
    ap₂ (λ x y. x && y)
    (ap (λ t. covers s (closed t) value.scheme) (put_same s.stands value.scheme.body h) ∙ covers_itself s value.scheme)
    (status_itself value.status)
  where
    closed : Tree → TypeScheme
    closed t = record { marks = value.scheme.marks; body = t }
