-- How the logic stores a graph: as lists and sums of what it has codes for.
use Rattle.std.specs.Prelude.{◌≡◌, refl, ℕ, List, ◌⊎◌}
use Rattle.std.specs.Coded.{Coded, code_by, coded_ℕ, coded_list, coded×, coded⊎}
use base.Stored.{Gv, gnil, gcons, coded_unit}
use mathlib.Core.Logic.{inl, inr}
use Rattle.semantic_objects.specs.declared.name.TyName.{TyName}
use Rattle.semantic_objects.specs.declared.entry.TypeStr.{TypeStr}
use Rattle.semantic_objects.specs.declared.entry.ValueEntry.{ValueEntry}
use Rattle.semantic_objects.specs.contracts.name.TyName as name
use Rattle.semantic_objects.specs.contracts.entry.TypeStr as type_str
use Rattle.semantic_objects.specs.contracts.entry.ValueEntry as value
use Rattle.semantic_objects.specs.Tables.{Table}
use Rattle.semantic_objects.specs.Environments.{Env, Structures, Signature, Functor, Top}
use Rattle.sml_modules.specs.Items.{Item}
use Rattle.sml_modules.specs.Graphs.{Graph}

abbrev pub text_code : Coded (List ℕ)
text_code = coded_list coded_ℕ

abbrev pub table_code : {A : Type 0} → Coded A → Coded (Table A)
table_code a = coded_list (coded× text_code a)

abbrev pub types_code : Coded (Table TypeStr)
types_code = table_code type_str.the_row.coded

abbrev pub values_code : Coded (Table ValueEntry)
values_code = table_code value.the_row.coded

abbrev mutual
  pub env_number : Env → Gv
  env_number (Env.MakeEnv ss ts vs) = gcons (structures_number ss) (gcons (types_code.code ts) (values_code.code vs))

  pub structures_number : Structures → Gv
  structures_number Structures.Nil = gnil
  structures_number (Structures.Cons name env rest) =
      gcons (text_code.code name) (gcons (env_number env) (structures_number rest))

env_same : (s : Structures) (t : Structures) (ts us : Table TypeStr) (vs ws : Table ValueEntry) → s ≡ t → ts ≡ us
    → vs ≡ ws → Env.MakeEnv s ts vs ≡ Env.MakeEnv t us ws
env_same s t ts us vs ws h k l = cc

cons_same : (m n : List ℕ) (d e : Env) (s t : Structures) → m ≡ n → d ≡ e → s ≡ t
    → Structures.Cons m d s ≡ Structures.Cons n e t
cons_same m n d e s t h k l = cc

mutual
  pub env_back : (x y : Env) → env_number x ≡ env_number y → x ≡ y
  env_back (Env.MakeEnv s ts vs) (Env.MakeEnv t us ws) e =
      let h : structures_number s ≡ structures_number t = cc in
      let k : types_code.code ts ≡ types_code.code us = cc in
      let l : values_code.code vs ≡ values_code.code ws = cc in
      env_same s t ts us vs ws (structures_back s t h) (types_code.inj ts us k) (values_code.inj vs ws l)

  pub structures_back : (x y : Structures) → structures_number x ≡ structures_number y → x ≡ y
  structures_back Structures.Nil Structures.Nil e = refl
  structures_back Structures.Nil (Structures.Cons n d rest) e = absurd (cc)
  structures_back (Structures.Cons n d rest) Structures.Nil e = absurd (cc)
  structures_back (Structures.Cons m d s) (Structures.Cons n e t) p =
      let h : text_code.code m ≡ text_code.code n = cc in
      let k : env_number d ≡ env_number e = cc in
      let l : structures_number s ≡ structures_number t = cc in
      cons_same m n d e s t (text_code.inj m n h) (env_back d e k) (structures_back s t l)

abbrev pub env_code : Coded Env
env_code = record { code = env_number; inj = env_back }

abbrev pub names_code : Coded (List TyName)
names_code = coded_list name.the_row.coded

abbrev pub signature_code : Coded Signature
signature_code =
    code_by (List TyName × Env) (coded× names_code env_code) (λ s. (s.bound, s.env))
    (λ p. record { bound = p.0; env = p.1 }) (λ _. refl)

abbrev pub functor_code : Coded Functor
functor_code =
    code_by ((List TyName × Env) × (List TyName × Env)) (coded× (coded× names_code env_code) (coded× names_code env_code))
    (λ f. ((f.bound, f.param), (f.further, f.result)))
    (λ p. record { bound = p.0.0; param = p.0.1; further = p.1.0; result = p.1.1 }) (λ _. refl)

abbrev pub top_code : Coded Top
top_code =
    code_by ((Env × Table Signature) × (Table Functor × Table Functor))
    (coded× (coded× env_code (table_code signature_code)) (coded× (table_code functor_code) (table_code functor_code)))
    (λ t. ((t.env, t.signatures), (t.functors, t.funsigs)))
    (λ p. record { env = p.0.0; signatures = p.0.1; functors = p.1.0; funsigs = p.1.1 }) (λ _. refl)

-- the kinds of items, one after the other
abbrev pub Kinds : Type 0
Kinds = Unit {0} ⊎ (TypeStr ⊎ (ValueEntry ⊎ (Env ⊎ (Signature ⊎ (Functor ⊎ Top)))))

abbrev pub split : Item → Kinds
split Item.Nowhere = inl tt
split (Item.TypeItem x) = inr (inl x)
split (Item.ValueItem x) = inr (inr (inl x))
split (Item.EnvItem x) = inr (inr (inr (inl x)))
split (Item.SignatureItem x) = inr (inr (inr (inr (inl x))))
split (Item.FunctorItem x) = inr (inr (inr (inr (inr (inl x)))))
split (Item.TopItem x) = inr (inr (inr (inr (inr (inr x)))))

abbrev pub join : Kinds → Item
join (inl x) = Item.Nowhere
join (inr (inl x)) = Item.TypeItem x
join (inr (inr (inl x))) = Item.ValueItem x
join (inr (inr (inr (inl x)))) = Item.EnvItem x
join (inr (inr (inr (inr (inl x))))) = Item.SignatureItem x
join (inr (inr (inr (inr (inr (inl x)))))) = Item.FunctorItem x
join (inr (inr (inr (inr (inr (inr x)))))) = Item.TopItem x

pub join-split : (x : Item) → join (split x) ≡ x
join-split Item.Nowhere = refl
join-split (Item.TypeItem x) = refl
join-split (Item.ValueItem x) = refl
join-split (Item.EnvItem x) = refl
join-split (Item.SignatureItem x) = refl
join-split (Item.FunctorItem x) = refl
join-split (Item.TopItem x) = refl

abbrev pub item_code : Coded Item
item_code =
    code_by Kinds (coded⊎ coded_unit (coded⊎ type_str.the_row.coded (coded⊎ value.the_row.coded
    (coded⊎ env_code (coded⊎ signature_code (coded⊎ functor_code top_code)))))) split join join-split

abbrev pub graph_code : Coded Graph
graph_code =
    code_by (List Item × (List ℕ × List TyName)) (coded× (coded_list item_code) (coded× text_code names_code))
    (λ g. (g.items, (g.home, g.made))) (λ p. record { items = p.0; home = p.1.0; made = p.1.1 }) (λ _. refl)
