-- Laws of nodes and of what they unfold to.
use Rattle.std.proofs.Common.{◌≡◌, ℕ, zero, suc, ◌+◌, ◌<◌, ◌≤◌, refl, sym, ap, ap₂, ◌∙◌, subst, arith, Some, List, [], ◌∷◌, ◌++◌, length, take}
use Rattle.std.specs.Prelude.{slice_get}
use Rattle.std.proofs.lemmas.List.{append_assoc, append-nil, length-append, get_or_append_left}
use Rattle.std.proofs.Math.Seq.{get_or-append_seam}
use Rattle.semantic_objects.specs.Tables.{Table}
use Rattle.semantic_objects.specs.Environments.{env_of, Top, Functor}
use Rattle.env_parts.specs.declared.tables.EnvTables.{EnvTables}
use Rattle.env_parts.specs.declared.tables.TopTables.{TopTables}
use Rattle.sml_modules.specs.declared.node.Node.{Node}
use Rattle.sml_modules.specs.declared.node.Node.TheVariants as node
use Rattle.sml_modules.specs.Items.{Item, at, as_type, as_value, as_env, as_signature, as_functor, IsType, IsValue, IsEnv, IsSignature, IsFunctor, map_rows}
use Rattle.sml_modules.specs.Items.{item_facts}
use Rattle.sml_modules.specs.Adding.{StandsAt}
use Rattle.sml_modules.specs.Nodes.{env_of_tables, top_of_tables, node_item, unfolded_after, unfolded, AreAll, AreEnvTables, AreTopTables, IsNodeAfter, AreNodesAfter, AreNodes}

-- a kind of items of which nothing is that stands nowhere
abbrev pub Never : (Item → Type 0) → Type 0
Never Is = Is Item.Nowhere → ⊥

pub within : (Is : Item → Type 0) → Never Is → (items : List Item) (p : ℕ) → Is (at items p) → p < length items
within Is none [] p h = absurd (none h)
within Is none (x ∷ xs) zero h = omega arith
within Is none (x ∷ xs) (suc p) h = let k : p < length xs = within Is none xs p h in omega (arith, k)

-- more items change nothing at an item that is there
pub at_more : (Is : Item → Type 0) → Never Is → (items more : List Item) (p : ℕ) → Is (at items p)
    → at (items ++ more) p ≡ at items p
at_more Is none items more p h = get_or_append_left items more Item.Nowhere p (within Is none items p h)

pub is_more : (Is : Item → Type 0) → Never Is → (items more : List Item) (p : ℕ) → Is (at items p)
    → Is (at (items ++ more) p)
is_more Is none items more p h = subst Is (sym (at_more Is none items more p h)) h

pub all_more : (Is : Item → Type 0) → Never Is → (items more : List Item) (rows : Table ℕ) → AreAll Is items rows
    → AreAll Is (items ++ more) rows
all_more Is none items more [] h = tt
all_more Is none items more (row ∷ rows) h =
    (is_more Is none items more row.1 h.0, all_more Is none items more rows h.1)

pub rows_more : {B : Type 0} (Is : Item → Type 0) → Never Is → (f : Item → B) (items more : List Item) (rows : Table ℕ)
    → AreAll Is items rows → map_rows (λ p. f (at (items ++ more) p)) rows ≡ map_rows (λ p. f (at items p)) rows
rows_more Is none f items more [] h = refl
rows_more Is none f items more (row ∷ rows) h =
    ap₂ (λ x xs. (row.0, f x) ∷ xs) (at_more Is none items more row.1 h.0) (rows_more Is none f items more rows h.1)

pub env_are_more : (items more : List Item) (t : EnvTables) → AreEnvTables items t → AreEnvTables (items ++ more) t
env_are_more items more t h = record {
  structures = all_more IsEnv (λ k. k) items more t.structures h.structures;
  types = all_more IsType (λ k. k) items more t.types h.types;
  values = all_more IsValue (λ k. k) items more t.values h.values;
}

pub env_more : (items more : List Item) (t : EnvTables) → AreEnvTables items t
    → env_of_tables (items ++ more) t ≡ env_of_tables items t
env_more items more t h =
    ap (λ z. env_of z (map_rows (λ p. as_type (at (items ++ more) p)) t.types)
    (map_rows (λ p. as_value (at (items ++ more) p)) t.values))
    (rows_more IsEnv (λ k. k) as_env items more t.structures h.structures)
    ∙ ap₂ (env_of (map_rows (λ p. as_env (at items p)) t.structures))
    (rows_more IsType (λ k. k) as_type items more t.types h.types)
    (rows_more IsValue (λ k. k) as_value items more t.values h.values)

pub top_are_more : (items more : List Item) (t : TopTables) → AreTopTables items t → AreTopTables (items ++ more) t
top_are_more items more t h = record {
  env = is_more IsEnv (λ k. k) items more t.env h.env;
  signatures = all_more IsSignature (λ k. k) items more t.signatures h.signatures;
  functors = all_more IsFunctor (λ k. k) items more t.functors h.functors;
  funsigs = all_more IsFunctor (λ k. k) items more t.funsigs h.funsigs;
}

top_same : (s t : Top) → s.env ≡ t.env → s.signatures ≡ t.signatures → s.functors ≡ t.functors
    → s.funsigs ≡ t.funsigs → s ≡ t
top_same s t h i j k = λ n. record { env = h n; signatures = i n; functors = j n; funsigs = k n }

functor_same : (f g : Functor) → f.bound ≡ g.bound → f.param ≡ g.param → f.further ≡ g.further
    → f.result ≡ g.result → f ≡ g
functor_same f g h i j k = λ n. record { bound = h n; param = i n; further = j n; result = k n }

pub top_more : (items more : List Item) (t : TopTables) → AreTopTables items t
    → top_of_tables (items ++ more) t ≡ top_of_tables items t
top_more items more t h = top_same _ _
    (ap as_env (at_more IsEnv (λ k. k) items more t.env h.env))
    (rows_more IsSignature (λ k. k) as_signature items more t.signatures h.signatures)
    (rows_more IsFunctor (λ k. k) as_functor items more t.functors h.functors)
    (rows_more IsFunctor (λ k. k) as_functor items more t.funsigs h.funsigs)

-- more items change nothing of a node
pub node_more : (items more : List Item) (x : Node) → IsNodeAfter items x
    → node_item (items ++ more) x ≡ node_item items x
node_more items more (node.TypeStr kept) h = refl
node_more items more (node.Value kept) h = refl
node_more items more (node.Env kept) h = ap Item.EnvItem (env_more items more kept.tables h.0)
node_more items more (node.Signature sig) h =
    ap (λ x. Item.SignatureItem (record { bound = sig.bound; env = as_env x }))
    (at_more IsEnv (λ k. k) items more sig.env h)
node_more items more (node.Functor fun) h = ap Item.FunctorItem (functor_same _ _ refl
    (ap as_env (at_more IsEnv (λ k. k) items more fun.param h.0)) refl
    (ap as_env (at_more IsEnv (λ k. k) items more fun.result h.1)))
node_more items more (node.Top tables) h = ap Item.TopItem (top_more items more tables h)

pub is_node_more : (items more : List Item) (x : Node) → IsNodeAfter items x → IsNodeAfter (items ++ more) x
is_node_more items more (node.TypeStr kept) h = h
is_node_more items more (node.Value kept) h = h
is_node_more items more (node.Env kept) h = (
  env_are_more items more kept.tables h.0,
  h.1 ∙ ap (λ e. item_facts (Item.EnvItem e)) (sym (env_more items more kept.tables h.0)),
)
is_node_more items more (node.Signature sig) h = is_more IsEnv (λ k. k) items more sig.env h
is_node_more items more (node.Functor fun) h = (
  is_more IsEnv (λ k. k) items more fun.param h.0,
  is_more IsEnv (λ k. k) items more fun.result h.1,
)
is_node_more items more (node.Top tables) h = top_are_more items more tables h

-- nodes add items behind those that were there
pub rest_of : (items : List Item) (xs : List Node) → (rest : List Item) × (unfolded_after items xs ≡ items ++ rest)
rest_of items [] = ([], sym (append-nil items))
rest_of items (x ∷ xs) =
    let r = rest_of (items ++ node_item items x ∷ []) xs in
    (node_item items x ∷ r.0, r.1 ∙ append_assoc items (node_item items x ∷ []) r.0)

some_is : {A : Type 0} (x y : A) → Some x ≡ Some y → x ≡ y
some_is x y h = cc

noted_here : (items rest all : List Item) (y : Node) → IsNodeAfter items y
    → all ≡ items ++ node_item items y ∷ rest → StandsAt all (length items) y
noted_here items rest all y h e = subst (λ z. StandsAt z (length items) y) (sym e) (record {
  is = get_or-append_seam items (node_item items y) rest Item.Nowhere
      ∙ sym (node_more items (node_item items y ∷ rest) y h);
  node = is_node_more items (node_item items y ∷ rest) y h;
})

noted_in : (items : List Item) (xs : List Node) (i p : ℕ) (x : Node) → AreNodesAfter items xs
    → slice_get xs i ≡ Some x → p ≡ length items + i → StandsAt (unfolded_after items xs) p x
noted_in items [] i p x h k e = absurd (cc)
noted_in items (y ∷ ys) zero p x h k e =
    let r = rest_of (items ++ node_item items y ∷ []) ys in
    let n : length items ≡ p = omega (arith, e) in
    subst (λ q. StandsAt (unfolded_after items (y ∷ ys)) q x) n
    (subst (StandsAt (unfolded_after items (y ∷ ys)) (length items)) (some_is y x k)
    (noted_here items r.0 (unfolded_after items (y ∷ ys)) y h.0
    (r.1 ∙ append_assoc items (node_item items y ∷ []) r.0)))
noted_in items (y ∷ ys) (suc i) p x h k e =
    let l : length (items ++ node_item items y ∷ []) ≡ length items + 1 = length-append items (node_item items y ∷ []) in
    noted_in (items ++ node_item items y ∷ []) ys i p x h.1 k (omega (arith, l, e))

-- what stands at a node, in terms of all items
pub noted : (xs : List Node) (p : ℕ) (x : Node) → AreNodes xs → slice_get xs p ≡ Some x → StandsAt (unfolded xs) p x
noted xs p x h k = noted_in [] xs p p x h.each k (omega arith)

-- where no node is there is nothing
pub nothing_past : (items : List Item) (p : ℕ) → length items ≤ p → at items p ≡ Item.Nowhere
nothing_past [] p h = refl
nothing_past (x ∷ xs) zero h = absurd (omega (arith, h))
nothing_past (x ∷ xs) (suc p) h = nothing_past xs p (omega (arith, h))

pub length-unfolded : (items : List Item) (xs : List Node)
    → length (unfolded_after items xs) ≡ length items + length xs
length-unfolded items [] = omega arith
length-unfolded items (x ∷ xs) =
    let h : length (unfolded_after (items ++ node_item items x ∷ []) xs) ≡ length (items ++ node_item items x ∷ [])
    + length xs = length-unfolded (items ++ node_item items x ∷ []) xs in
    let k : length (items ++ node_item items x ∷ []) ≡ length items + 1 = length-append items (node_item items x ∷ []) in
    omega (arith, h, k)

unfolded-append : (items : List Item) (xs ys : List Node)
    → unfolded_after items (xs ++ ys) ≡ unfolded_after (unfolded_after items xs) ys
unfolded-append items [] ys = refl
unfolded-append items (x ∷ xs) ys = unfolded-append (items ++ node_item items x ∷ []) xs ys

pub unfolded_push : (xs : List Node) (x : Node) → unfolded (xs ++ x ∷ []) ≡ unfolded xs ++ node_item (unfolded xs) x ∷ []
unfolded_push xs x = unfolded-append [] xs (x ∷ [])

are_push_in : (items : List Item) (xs : List Node) (x : Node) → AreNodesAfter items xs
    → IsNodeAfter (unfolded_after items xs) x → AreNodesAfter items (xs ++ x ∷ [])
are_push_in items [] x h k = (k, tt)
are_push_in items (y ∷ ys) x h k = (h.0, are_push_in (items ++ node_item items y ∷ []) ys x h.1 k)

pub are_push : (xs : List Node) (x : Node) → AreNodes xs → IsNodeAfter (unfolded xs) x → AreNodes (xs ++ x ∷ [])
are_push xs x h k = record { each = are_push_in [] xs x h.each k }

are_take_in : (items : List Item) (n : ℕ) (xs : List Node) → AreNodesAfter items xs → AreNodesAfter items (take n xs)
are_take_in items zero xs h = tt
are_take_in items (suc n) [] h = tt
are_take_in items (suc n) (x ∷ xs) h = (h.0, are_take_in (items ++ node_item items x ∷ []) n xs h.1)

pub are_take : (n : ℕ) (xs : List Node) → AreNodes xs → AreNodes (take n xs)
are_take n xs h = record { each = are_take_in [] n xs h.each }

pub take_front : {A : Type 0} (n : ℕ) (xs ys : List A) → n ≡ length xs → take n (xs ++ ys) ≡ xs
take_front zero [] ys h = refl
take_front zero (x ∷ xs) ys h = absurd (omega (arith, h))
take_front (suc n) [] ys h = absurd (omega (arith, h))
take_front (suc n) (x ∷ xs) ys h = ap (λ z. x ∷ z) (take_front n xs ys (omega (arith, h)))

take_long : {A : Type 0} (n : ℕ) (xs : List A) → length xs ≤ n → take n xs ≡ xs
take_long zero [] h = refl
take_long zero (x ∷ xs) h = absurd (omega (arith, h))
take_long (suc n) [] h = refl
take_long (suc n) (x ∷ xs) h = ap (λ z. x ∷ z) (take_long n xs (omega (arith, h)))

unfolded_take_in : (items : List Item) (n m : ℕ) (xs : List Node) → m ≡ length items + n
    → unfolded_after items (take n xs) ≡ take m (unfolded_after items xs)
unfolded_take_in items zero m xs h =
    let r = rest_of items xs in
    sym (take_front m items r.0 (omega (arith, h))) ∙ ap (take m) (sym r.1)
unfolded_take_in items (suc n) m [] h = sym (take_long m items (omega (arith, h)))
unfolded_take_in items (suc n) m (x ∷ xs) h =
    let l : length (items ++ node_item items x ∷ []) ≡ length items + 1 = length-append items (node_item items x ∷ []) in
    unfolded_take_in (items ++ node_item items x ∷ []) n m xs (omega (arith, l, h))

pub unfolded_take : (n : ℕ) (xs : List Node) → unfolded (take n xs) ≡ take n (unfolded xs)
unfolded_take n xs = unfolded_take_in [] n n xs (omega arith)
