-- Nodes and their numbers: each node that is whole stands once, so that it is found under its own number.
use Rattle.std.proofs.Common.{◌≡◌, ℕ, zero, suc, ◌+◌, ◌<◌, ◌≤◌, refl, sym, ap, subst, ◌∙◌, List, [], ◌∷◌, ◌++◌, length, Bool, true, false, Option, Some, None, append_assoc, arith}
use Rattle.std.specs.Prelude.{◌||◌}
use Rattle.std.proofs.lemmas.List.{append-nil}
use Rattle.node_bytes.specs.Nodes.{Node, Content, Begun, same_node, whole, one_on, here_or, number_of, node_of}
use Rattle.node_bytes.specs.Formats.{Format}
use Rattle.node_bytes.specs.Spelling.{Spelled, spelled, spelled_as, spelled_content}
use Rattle.node_bytes.proofs.Same.{node_is, node_itself, node_differs, node_apart}

-- ---- numbers

pub length-whole : (xs : List Node) → length (whole xs) ≡ length xs
length-whole [] = refl
length-whole (x ∷ xs) = ap suc (length-whole xs)

pub whole-append : (xs ys : List Node) → whole (xs ++ ys) ≡ whole xs ++ whole ys
whole-append [] ys = refl
whole-append (x ∷ xs) ys = ap (λ (zs : Begun). Some x ∷ zs) (whole-append xs ys)

-- the node stands whole under the number
record Leads (begun : Begun) (x : Node) (k : ℕ) : Type 0 where
  node : node_of begun k ≡ Some x
  below : k < length begun

-- one more before them
leads_later : (first : Option Node) (begun : Begun) (x : Node) (o : Option ℕ) (k : ℕ)
    → ((n : ℕ) → o ≡ Some n → Leads begun x n) → one_on o ≡ Some k → Leads (first ∷ begun) x k
leads_later first begun x None k h e = absurd (cc)
leads_later first begun x (Some n) k h e =
    let at : suc n ≡ k = cc in
    let r = h n refl in
    let one : Leads (first ∷ begun) x (suc n) = record { node = r.node; below = omega (arith, r.below) } in
    subst (Leads (first ∷ begun) x) at one

leads_here : (y : Node) (begun : Begun) (x : Node) (o : Option ℕ) (k : ℕ) (b : Bool) → same_node x y ≡ b
    → ((n : ℕ) → o ≡ Some n → Leads begun x n) → here_or b o ≡ Some k → Leads (Some y ∷ begun) x k
leads_here y begun x o k true s h e =
    let at : 0 ≡ k = cc in
    let one : Leads (Some y ∷ begun) x 0 = record {
      node = ap (λ (z : Node). Some z) (sym (node_is x y s));
      below = omega arith;
    } in
    subst (Leads (Some y ∷ begun) x) at one
leads_here y begun x o k false s h e = leads_later (Some y) begun x o k h e

leads : (begun : Begun) (x : Node) (k : ℕ) → number_of begun x ≡ Some k → Leads begun x k
leads [] x k e = absurd (cc)
leads (None ∷ begun) x k e = leads_later None begun x (number_of begun x) k (leads begun x) e
leads (Some y ∷ begun) x k e =
    leads_here y begun x (number_of begun x) k (same_node x y) refl (leads begun x) e

-- a number that was found leads to the node
pub number_leads : (begun : Begun) (x : Node) (k : ℕ) → number_of begun x ≡ Some k
    → (node_of begun k ≡ Some x) × (k < length begun)
number_leads begun x k e = let r = leads begun x k e in (r.node, r.below)

-- ---- each once

-- whether a node stands whole
abbrev pub stands : Begun → Node → Bool
stands [] x = false
stands (None ∷ begun) x = stands begun x
stands (Some y ∷ begun) x = same_node x y || stands begun x

or_false : (a b : Bool) → (a || b) ≡ false → (a ≡ false) × (b ≡ false)
or_false true b h = absurd (cc)
or_false false b h = (refl, h)

false_or : (a b : Bool) → a ≡ false → b ≡ false → (a || b) ≡ false
false_or true b h k = absurd (cc)
false_or false b h k = k

or_assoc : (a b c : Bool) → ((a || b) || c) ≡ (a || (b || c))
or_assoc true b c = refl
or_assoc false b c = refl

pub stands-append : (xs ys : Begun) (x : Node) → stands (xs ++ ys) x ≡ (stands xs x || stands ys x)
stands-append [] ys x = refl
stands-append (None ∷ xs) ys x = stands-append xs ys x
stands-append (Some y ∷ xs) ys x =
    ap (λ (b : Bool). same_node x y || b) (stands-append xs ys x)
    ∙ sym (or_assoc (same_node x y) (stands xs x) (stands ys x))

one_on_none : (o : Option ℕ) → one_on o ≡ None → o ≡ None
one_on_none None e = refl
one_on_none (Some n) e = absurd (cc)

here_or_none : (b : Bool) (o : Option ℕ) → here_or b o ≡ None → (b ≡ false) × (o ≡ None)
here_or_none true o e = absurd (cc)
here_or_none false o e = (refl, one_on_none o e)

-- a node without a number stands nowhere
pub number_none : (begun : Begun) (x : Node) → number_of begun x ≡ None → stands begun x ≡ false
number_none [] x e = refl
number_none (None ∷ begun) x e = number_none begun x (one_on_none (number_of begun x) e)
number_none (Some y ∷ begun) x e =
    let both = here_or_none (same_node x y) (number_of begun x) e in
    false_or (same_node x y) (stands begun x) both.0 (number_none begun x both.1)

-- no node stands twice
abbrev pub AreOnce : Begun → Type 0
AreOnce [] = Unit {0}
AreOnce (None ∷ begun) = AreOnce begun
AreOnce (Some y ∷ begun) = (stands begun y ≡ false) × AreOnce begun

pub stands_at : (begun : Begun) (k : ℕ) (x : Node) → node_of begun k ≡ Some x → stands begun x ≡ true
stands_at [] k x e = absurd (cc)
stands_at (None ∷ begun) zero x e = absurd (cc)
stands_at (None ∷ begun) (suc k) x e = stands_at begun k x e
stands_at (Some y ∷ begun) zero x e =
    let is : y ≡ x = cc in
    subst (λ (z : Node). (same_node x z || stands begun x) ≡ true) (sym is)
    (or_left (same_node x x) (stands begun x) (node_itself x))
  where
    or_left : (a b : Bool) → a ≡ true → (a || b) ≡ true
    or_left true b h = refl
    or_left false b h = absurd (cc)
stands_at (Some y ∷ begun) (suc k) x e = or_right (same_node x y) (stands begun x) (stands_at begun k x e)
  where
    or_right : (a b : Bool) → b ≡ true → (a || b) ≡ true
    or_right true b h = refl
    or_right false b h = h

-- then it is found under its own number
pub number_is : (begun : Begun) (k : ℕ) (x : Node) → AreOnce begun → node_of begun k ≡ Some x
    → number_of begun x ≡ Some k
number_is [] k x once e = absurd (cc)
number_is (None ∷ begun) zero x once e = absurd (cc)
number_is (None ∷ begun) (suc k) x once e = ap one_on (number_is begun k x once e)
number_is (Some y ∷ begun) zero x once e =
    let is : y ≡ x = cc in
    subst (λ (z : Node). here_or (same_node x z) (number_of begun x) ≡ Some 0) (sym is)
    (ap (λ (b : Bool). here_or b (number_of begun x)) (node_itself x))
number_is (Some y ∷ begun) (suc k) x once e =
    let there = stands_at begun k x e in
    let other : same_node x y ≡ false =
    node_apart x y (λ is. let gone = subst (λ (z : Node). stands begun z ≡ false) (sym is) once.0 in absurd (cc)) in
    ap (λ (b : Bool). here_or b (number_of begun x)) other ∙ ap one_on (number_is begun k x once.1 e)

-- a number is given to a node that isn't whole yet
pub once_open : (begun : Begun) → AreOnce begun → AreOnce (begun ++ None ∷ [])
once_open [] once = tt
once_open (None ∷ begun) once = once_open begun once
once_open (Some y ∷ begun) once =
    (stands-append begun (None ∷ []) y ∙ false_or (stands begun y) false once.0 refl, once_open begun once.1)

-- a node that is new becomes whole
pub once_closed : (begun later : Begun) (x : Node) → AreOnce ((begun ++ None ∷ []) ++ later)
    → stands begun x ≡ false → stands later x ≡ false → AreOnce (begun ++ Some x ∷ later)
once_closed [] later x once h k = (k, once)
once_closed (None ∷ begun) later x once h k = once_closed begun later x once h k
once_closed (Some y ∷ begun) later x once h k =
    let new = or_false (same_node x y) (stands begun x) h in
    let apart : same_node y x ≡ false = node_apart y x (λ e. node_differs x y new.0 (sym e)) in
    let both = or_false (stands (begun ++ None ∷ []) y) (stands later y)
    (sym (stands-append (begun ++ None ∷ []) later y) ∙ once.0) in
    let before = or_false (stands begun y) (stands (None ∷ []) y)
    (sym (stands-append begun (None ∷ []) y) ∙ both.0) in (
      stands-append begun (Some x ∷ later) y
          ∙ false_or (stands begun y) (same_node y x || stands later y) before.0
          (false_or (same_node y x) (stands later y) apart both.1),
      once_closed begun later x once.1 new.1 k,
    )

-- ---- sizes

mutual
  size : Node → ℕ
  size (Node.node tag content) = suc (size_in content)

  size_in : Content → ℕ
  size_in Content.nothing = 0
  size_in (Content.piece text content) = size_in content
  size_in (Content.part x content) = size x + size_in content

-- nodes of at most that size
abbrev AreSmall : ℕ → List Node → Type 0
AreSmall k [] = Unit {0}
AreSmall k (y ∷ ys) = (size y ≤ k) × AreSmall k ys

small_more : (j k : ℕ) (ys : List Node) → j ≤ k → AreSmall j ys → AreSmall k ys
small_more j k [] le h = tt
small_more j k (y ∷ ys) le h = (omega (arith, h.0, le), small_more j k ys le h.1)

small_append : (k : ℕ) (xs ys : List Node) → AreSmall k xs → AreSmall k ys → AreSmall k (xs ++ ys)
small_append k [] ys h g = g
small_append k (x ∷ xs) ys h g = (h.0, small_append k xs ys h.1 g)

small_apart : (k : ℕ) (ys : List Node) (x : Node) → k < size x → AreSmall k ys → stands (whole ys) x ≡ false
small_apart k [] x lt h = refl
small_apart k (y ∷ ys) x lt h =
    let other : x ≡ y → ⊥ = λ e. let same = ap size e in omega (arith, h.0, lt, same) in
    false_or (same_node x y) (stands (whole ys) x) (node_apart x y other) (small_apart k ys x lt h.1)

small_as : (f : Format) (o : Option ℕ) (tag : ℕ) (content : Content) (inner : Spelled)
    → AreSmall (size_in content) inner.nodes
    → AreSmall (size (Node.node tag content)) (spelled_as f o (Node.node tag content) inner).nodes
unfolding size
small_as f None tag content inner h = (omega arith, small_more _ _ inner.nodes (omega arith) h)
small_as f (Some n) tag content inner h = tt

mutual
  unfolding size

  small : (f : Format) (begun : Begun) (x : Node) → AreSmall (size x) (spelled f begun x).nodes
  small f begun (Node.node tag content) =
      small_as f (number_of begun (Node.node tag content)) tag content (spelled_content f (begun ++ None ∷ []) content)
      (small_in f (begun ++ None ∷ []) content)

  small_in : (f : Format) (begun : Begun) (content : Content)
      → AreSmall (size_in content) (spelled_content f begun content).nodes
  small_in f begun Content.nothing = tt
  small_in f begun (Content.piece text content) = small_in f begun content
  small_in f begun (Content.part x content) =
      small_append (size x + size_in content) (spelled f begun x).nodes
      (spelled_content f (begun ++ whole (spelled f begun x).nodes) content).nodes
      (small_more (size x) (size x + size_in content) (spelled f begun x).nodes (omega arith) (small f begun x))
      (small_more (size_in content) (size x + size_in content)
      (spelled_content f (begun ++ whole (spelled f begun x).nodes) content).nodes (omega arith)
      (small_in f (begun ++ whole (spelled f begun x).nodes) content))

-- no node stands in itself
pub not_inside : (f : Format) (begun : Begun) (tag : ℕ) (content : Content)
    → stands (whole (spelled_content f begun content).nodes) (Node.node tag content) ≡ false
unfolding size
not_inside f begun tag content =
    small_apart (size_in content) (spelled_content f begun content).nodes (Node.node tag content) (omega arith)
    (small_in f begun content)

-- ---- spelling keeps each node once

once_as : (f : Format) (begun : Begun) (o : Option ℕ) (tag : ℕ) (content : Content)
    → number_of begun (Node.node tag content) ≡ o → AreOnce begun
    → AreOnce ((begun ++ None ∷ []) ++ whole (spelled_content f (begun ++ None ∷ []) content).nodes)
    → AreOnce (begun ++ whole (spelled_as f o (Node.node tag content)
    (spelled_content f (begun ++ None ∷ []) content)).nodes)
once_as f begun (Some n) tag content e once h = subst AreOnce (sym (append-nil begun)) once
once_as f begun None tag content e once h =
    once_closed begun (whole (spelled_content f (begun ++ None ∷ []) content).nodes) (Node.node tag content) h
    (number_none begun (Node.node tag content) e) (not_inside f (begun ++ None ∷ []) tag content)

mutual
  pub keeps_once : (f : Format) (begun : Begun) (x : Node) → AreOnce begun
      → AreOnce (begun ++ whole (spelled f begun x).nodes)
  keeps_once f begun (Node.node tag content) once =
      once_as f begun (number_of begun (Node.node tag content)) tag content refl once
      (keeps_once_in f (begun ++ None ∷ []) content (once_open begun once))

  keeps_once_in : (f : Format) (begun : Begun) (content : Content) → AreOnce begun
      → AreOnce (begun ++ whole (spelled_content f begun content).nodes)
  keeps_once_in f begun Content.nothing once = subst AreOnce (sym (append-nil begun)) once
  keeps_once_in f begun (Content.piece text content) once = keeps_once_in f begun content once
  keeps_once_in f begun (Content.part x content) once =
      subst AreOnce
      (append_assoc begun (whole (spelled f begun x).nodes)
      (whole (spelled_content f (begun ++ whole (spelled f begun x).nodes) content).nodes)
      ∙ ap (λ (zs : Begun). begun ++ zs) (sym (whole-append (spelled f begun x).nodes
      (spelled_content f (begun ++ whole (spelled f begun x).nodes) content).nodes)))
      (keeps_once_in f (begun ++ whole (spelled f begun x).nodes) content (keeps_once f begun x once))
