-- Steps of inference, one after another, with the names that they make.
use Rattle.std.proofs.Common.{◌≡◌, ℕ, suc, ◌≤◌, List, [], ◌∷◌, ◌++◌, sym, subst, arith, Some, None, not}
use Rattle.std.specs.Prelude.{Ok, Err, ltb}
use Rattle.std.proofs.lemmas.Bool.{lt-ltb}
use Rattle.semantic_objects.specs.declared.name.TyName.{TyName}
use Rattle.unification.proofs.Walking.{or_right}
use Rattle.static_semantics.specs.Inferring.{Progress, Answer}
use Rattle.static_semantics.specs.DatatypeInference.{same_as_home}
use Rattle.static_semantics.specs.Holding.{Given, AllItems}
use Rattle.inference_laws.specs.Nodes.{Nodes, NumberedFrom, MayStand, Makes, below_number, IsReadyFor}

-- ---- answers

-- what an answer has, of whatever nodes one looks at
pub given_all : {A : Type 0} (P : Nodes → Type 0) (R : Nodes → A → Type 0) (m : Answer A)
    → ((q : Nodes) → P q → Given (R q) m) → Given (λ x. (q : Nodes) → P q → R q x) m
given_all P R None h = tt
given_all P R (Some (Err d)) h = tt
given_all P R (Some (Ok x)) h = λ q p. h q p

pub given_both : {A : Type 0} (R Q : A → Type 0) (m : Answer A) → Given R m → Given Q m → Given (λ x. R x × Q x) m
given_both R Q None h k = tt
given_both R Q (Some (Err d)) h k = tt
given_both R Q (Some (Ok x)) h k = (h, k)

-- ---- numbered names

pub numbered_rise : (home : List ℕ) (from : ℕ) (names : List TyName) (to : ℕ) → NumberedFrom home from names to
    → from ≤ to
numbered_rise home from [] to h = omega (arith, h)
numbered_rise home from (name ∷ names) to h =
    let k : suc from ≤ to = numbered_rise home (suc from) names to h.2 in omega (arith, k)

numbered_then : (home : List ℕ) (a : ℕ) (first : List TyName) (b : ℕ) (second : List TyName) (c : ℕ)
    → NumberedFrom home a first b → NumberedFrom home b second c → NumberedFrom home a (first ++ second) c
numbered_then home a [] b second c h k = subst (λ z. NumberedFrom home z second c) (sym h) k
numbered_then home a (name ∷ first) b second c h k =
    (h.0, h.1, numbered_then home (suc a) first b second c h.2 k)

pub names_below : (home : List ℕ) (from : ℕ) (names : List TyName) (to m : ℕ) → NumberedFrom home from names to → to ≤ m
    → AllItems (MayStand (below_number home m)) names
names_below home from [] to m h l = tt
names_below home from (name ∷ names) to m h l = (
  or_right (not (same_as_home home name.owner)) (ltb name.number m) (lt-ltb name.number m
      (let k : suc from ≤ to = numbered_rise home (suc from) names to h.2 in
      let e : name.number ≡ from = h.1 in omega (arith, k, l, e))),
  names_below home (suc from) names to m h.2 l,
)

pub items_left : {A : Type 0} (R : A → Type 0) (first second : List A) → AllItems R (first ++ second)
    → AllItems R first
items_left R [] second h = tt
items_left R (x ∷ first) second h = (h.0, items_left R first second h.1)

pub items_right : {A : Type 0} (R : A → Type 0) (first second : List A) → AllItems R (first ++ second)
    → AllItems R second
items_right R [] second h = h
items_right R (x ∷ first) second h = items_right R first second h.1

-- ---- steps

-- no names are made
pub plain : {home : List ℕ} {From To : Nodes → Type 0} {st u : Progress} → u.names ≡ st.names
    → ((q : Nodes) → From q → To q) → Makes home From st u To
plain e h = record { names = []; numbered = sym e; holds = λ q p n. h q p }

-- one step after another
pub after : {home : List ℕ} {From To Then Last : Nodes → Type 0} {st u v : Progress} → Makes home From st u To
    → Makes home Then u v Last → ((q : Nodes) → From q → To q → Then q)
    → Makes home From st v (λ q. To q × Last q)
after {home = home} {st = st} {u = u} {v = v} h k f = record {
  names = h.names ++ k.names;
  numbered = numbered_then home st.names h.names u.names k.names v.names h.numbered k.numbered;
  holds = λ q p n.
      let a = h.holds q p (items_left (MayStand q) h.names k.names n) in
      (a, k.holds q (f q p a) (items_right (MayStand q) h.names k.names n));
}

-- .. the second of which makes no names
pub step : {home : List ℕ} {From To Last : Nodes → Type 0} {st u v : Progress} → Makes home From st u To
    → v.names ≡ u.names → ((q : Nodes) → From q → To q → Last q) → Makes home From st v Last
step {home = home} {st = st} h e f = record {
  names = h.names;
  numbered = subst (λ z. NumberedFrom home st.names h.names z) (sym e) h.numbered;
  holds = λ q p n. f q p (h.holds q p n);
}

-- .. the first of which makes none
pub before : {home : List ℕ} {From Then Last : Nodes → Type 0} {st u v : Progress} → u.names ≡ st.names
    → Makes home Then u v Last → ((q : Nodes) → From q → Then q) → Makes home From st v Last
before {home = home} {v = v} e k f = record {
  names = k.names;
  numbered = subst (λ z. NumberedFrom home z k.names v.names) e k.numbered;
  holds = λ q p n. k.holds q (f q p) n;
}

pub names_rise : {home : List ℕ} {From To : Nodes → Type 0} {st u : Progress} → Makes home From st u To
    → st.names ≤ u.names
names_rise {home = home} {st = st} {u = u} h = numbered_rise home st.names h.names u.names h.numbered

-- what is ready for a step is ready for the next one after it
pub ready_after : {home : List ℕ} {From To Then : Nodes → Type 0} {st u : Progress} → IsReadyFor home From st.names
    → Makes home From st u To → ((q : Nodes) → From q → To q → Then q) → IsReadyFor home Then u.names
ready_after {home = home} {st = st} {u = u} h k f m l =
    let p = h m (let i : st.names ≤ u.names = numbered_rise home st.names k.names u.names k.numbered in
    omega (arith, i, l)) in
    f (below_number home m) p
    (k.holds (below_number home m) p (names_below home st.names k.names u.names m k.numbered l))

pub ready_same : (home : List ℕ) (From Then : Nodes → Type 0) (k m : ℕ) → m ≡ k → IsReadyFor home From k
    → ((q : Nodes) → From q → Then q) → IsReadyFor home Then m
ready_same home From Then k m e h f n l = f (below_number home n) (h n (omega (arith, e, l)))

-- what holds of such nodes
pub ready_now : (home : List ℕ) (From : Nodes → Type 0) (k : ℕ) → IsReadyFor home From k → From (below_number home k)
ready_now home From k h = h k (omega arith)

-- a step that makes no names, of which something is known for whatever nodes one looks at
pub all_step : {A : Type 0} (home : List ℕ) (From To : Nodes → Type 0) (st u : Progress) (state : A → Progress)
    (Last : A → Nodes → Type 0) (m : Answer A) → IsReadyFor home From st.names → Makes home From st u To
    → ((q : Nodes) → From q → To q → Given (λ x. ((state x).names ≡ u.names) × Last x q) m)
    → Given (λ x. Makes home From st (state x) (λ q. To q × Last x q)) m
all_step home From To st u state Last None h k f = tt
all_step home From To st u state Last (Some (Err d)) h k f = tt
all_step home From To st u state Last (Some (Ok x)) h k f =
    let q : Nodes = below_number home u.names in
    let p : From q = h u.names (names_rise k) in
    let t : To q = k.holds q p (names_below home st.names k.names u.names u.names k.numbered (omega arith)) in
    step k (f q p t).0 (λ r i j. (j, (f r i j).1))

-- .. at the beginning
pub all_first : {A : Type 0} (home : List ℕ) (From : Nodes → Type 0) (st : Progress) (state : A → Progress)
    (Last : A → Nodes → Type 0) (m : Answer A) → IsReadyFor home From st.names
    → ((q : Nodes) → From q → Given (λ x. ((state x).names ≡ st.names) × Last x q) m)
    → Given (λ x. Makes home From st (state x) (Last x)) m
all_first home From st state Last None h f = tt
all_first home From st state Last (Some (Err d)) h f = tt
all_first home From st state Last (Some (Ok x)) h f =
    plain (f (below_number home st.names) (h st.names (omega arith))).0 (λ q p. (f q p).1)

-- less may be said of what holds
pub less : {home : List ℕ} {From To Last : Nodes → Type 0} {st u : Progress} → Makes home From st u To
    → ((q : Nodes) → From q → To q → Last q) → Makes home From st u Last
less h f = record { names = h.names; numbered = h.numbered; holds = λ q p n. f q p (h.holds q p n) }
