-- Flexible names, and signatures without one of them.
use Rattle.std.proofs.Common.{◌≡◌, ℕ, refl, sym, ap, ap₂, ◌∙◌, subst, List, [], ◌∷◌, ◌++◌, Option, Some, None, Bool, true, false, ◌||◌, not, cond, append-nil, append_assoc}
use Rattle.std.specs.Prelude.{filter, IsTrue}
use Rattle.semantic_objects.specs.declared.name.TyName.{TyName}
use Rattle.semantic_objects.specs.declared.entry.TypeFn.{TypeFn}
use Rattle.semantic_objects.specs.Symbols.{same_name}
use Rattle.semantic_objects.specs.Environments.{Env, Signature}
use Rattle.realisation.proofs.Listing.{name_is, name_same}
use Rattle.realisation.specs.Names.{is_listed}
use Rattle.realisation.specs.Realised.{of_rows, realised}
use Rattle.type_walks.specs.declared.replacing.Replace.{Replace}
use Rattle.type_walks.specs.Replaced.{put_by, rows_of}
use Rattle.sml_modules.specs.declared.parts.SigParts.{SigParts}
use Rattle.sml_modules.specs.Graphs.{Graph, env_at, signature_of, GivesEnv}
use Rattle.module_semantics.specs.SignatureInference.{with_function}
use Rattle.where_types.specs.Where.{GrowsByNodes, GivesParts}

-- ---- a name among others

-- a test for one name
pub is_name : (name other : TyName) (b : Bool) → (b ≡ true → name ≡ other) → (name ≡ other → b ≡ true)
    → b ≡ same_name name other
is_name name other b to from = by_test b (same_name name other) refl refl
  where
    by_test : (x y : Bool) → b ≡ x → same_name name other ≡ y → b ≡ same_name name other
    by_test true true h k = h ∙ sym k
    by_test false false h k = h ∙ sym k
    by_test true false h k =
        let e : same_name name other ≡ true = subst (λ z. same_name name z ≡ true) (to h) (name_same name) in
        absurd (cc)
    by_test false true h k =
        let e : b ≡ true = from (name_is name other k) in
        absurd (cc)

-- the next of some names
pub listed_next : (name : TyName) (all left rest : List TyName) (item : TyName) → left ≡ item ∷ rest
    → same_name name item ≡ false → is_listed name left ≡ is_listed name all → is_listed name rest ≡ is_listed name all
listed_next name all left rest item e f h =
    sym (ap (is_listed name) e ∙ ap (λ b. b || is_listed name rest) f) ∙ h

pub listed_here : (name : TyName) (all left rest : List TyName) (item : TyName) → left ≡ item ∷ rest
    → same_name name item ≡ true → is_listed name left ≡ is_listed name all → true ≡ is_listed name all
listed_here name all left rest item e f h =
    sym (ap (is_listed name) e ∙ ap (λ b. b || is_listed name rest) f) ∙ h

pub listed_none : (name : TyName) (all left : List TyName) → left ≡ [] → is_listed name left ≡ is_listed name all
    → false ≡ is_listed name all
listed_none name all left e h = sym (ap (is_listed name) e) ∙ h

-- all but one
abbrev pub others : TyName → List TyName → List TyName
others name names = filter (λ m. not (same_name name m)) names

others_first : (name item : TyName) (rest : List TyName)
    → others name (item ∷ rest) ≡ others name (item ∷ []) ++ others name rest
others_first name item rest = by_test (not (same_name name item))
  where
    by_test : (b : Bool) → cond b (item ∷ others name rest) (others name rest)
        ≡ cond b (item ∷ []) [] ++ others name rest
    by_test true = refl
    by_test false = refl

pub others_next : (name item : TyName) (names left rest kept new : List TyName) → left ≡ item ∷ rest
    → kept ++ others name left ≡ others name names → new ≡ kept ++ others name (item ∷ [])
    → new ++ others name rest ≡ others name names
others_next name item names left rest kept new e h k =
    ap (λ z. z ++ others name rest) k
    ∙ append_assoc kept (others name (item ∷ [])) (others name rest)
    ∙ ap (λ z. kept ++ z) (sym (ap (others name) e ∙ others_first name item rest)) ∙ h

pub others_end : (name : TyName) (names left kept : List TyName) → left ≡ []
    → kept ++ others name left ≡ others name names → kept ≡ others name names
others_end name names left kept e h =
    sym (ap (λ z. kept ++ others name z) e ∙ append-nil kept) ∙ h

pub other_added : (name item : TyName) (old new : List TyName) → same_name name item ≡ false → new ≡ old ++ item ∷ []
    → new ≡ old ++ others name (item ∷ [])
other_added name item old new f e =
    e ∙ ap (λ b. old ++ cond (not b) (item ∷ []) []) (sym f)

pub other_left : (name item : TyName) (old : List TyName) → same_name name item ≡ true
    → old ≡ old ++ others name (item ∷ [])
other_left name item old f = sym (ap (λ b. old ++ cond (not b) (item ∷ []) []) f ∙ append-nil old)

-- ---- a signature without a name

pub put_alone : (list : List Replace) (name : TyName) (by : TypeFn) (env : Env)
    → list ≡ (let r : Replace = record { name = name; by = by } in r) ∷ []
    → realised (put_by list) env ≡ realised (of_rows ((name, by) ∷ [])) env
put_alone list name by env e = ap (λ z. realised (put_by z) env) e

pub parts_put : (g h : Graph) (sig made : SigParts) (list : List Replace) (name : TyName) (by : TypeFn)
    → made.bound ≡ filter (λ m. not (same_name name m)) sig.bound
    → list ≡ (let r : Replace = record { name = name; by = by } in r) ∷ []
    → GivesEnv g h (realised (put_by list) (env_at g sig.env)) made.env
    → GivesParts g h (with_function name by (signature_of g sig)) made
parts_put g h sig made list name by left one gives = record {
  there = gives.there;
  is = both left (gives.stands ∙ put_alone list name by (env_at g sig.env) one);
  grows = record { keeps = gives.keeps; home = gives.home; made = gives.made };
}
  where
    both : {m n : List TyName} {d e : Env} → m ≡ n → d ≡ e
        → (let s : Signature = record { bound = m; env = d } in s) ≡ (let t : Signature = record { bound = n; env = e } in t)
    both x y = ap₂ (λ (b : List TyName) (v : Env). (let s : Signature = record { bound = b; env = v } in s)) x y
