-- A table of nodes that grows, and the places of its nodes.
use Rattle.std.proofs.Common.{◌≡◌, ℕ, ◌+◌, ◌<◌, List, [], ◌++◌, length, refl, sym, ap, ◌∙◌, subst, Some, None, cond, nat_eq, append_assoc, arith}
use Rattle.std.specs.Prelude.{Result, Ok, Err, IfOk, OnOk}
use Rattle.std.proofs.lemmas.Bool.{eqb-true}
use Rattle.std.proofs.lemmas.List.{append-nil, length-append, get_or_append_left}
use Rattle.unification.proofs.Walking.{either_way}
use Rattle.node_bytes.specs.Nodes.{Node}
use Rattle.node_bytes.specs.Tables.{nowhere}
use Rattle.node_tables.specs.Tables.{Adds}
use Rattle.sml_modules.specs.Items.{Item, at}
use Rattle.interface_nodes.specs.Fields.{node_at}
use Rattle.environment_nodes.specs.declared.places.NodePlaces.{NodePlaces}
use Rattle.environment_nodes.specs.Written.{item_node, place_in, AreWithin, AreWritten, Grows}

pub if_ok : {A E : Type 0} {P Q : A → Type 0} (r : Result A E) → IfOk r P → ((x : A) → P x → Q x) → IfOk r Q
if_ok (Ok x) h f = f x h
if_ok (Err e) h f = tt

pub on_ok : {E P Q : Type 0} (r : Result (Unit {0}) E) → OnOk r P → (P → Q) → OnOk r Q
on_ok (Ok x) h f = f h
on_ok (Err e) h f = tt

-- ---- tables

pub grows_not : (nodes : List Node) → Grows nodes nodes
grows_not nodes = record { more = []; grown = sym (append-nil nodes) }

pub grows_then : (a b c : List Node) → Grows a b → Grows b c → Grows a c
grows_then a b c h k = record {
  more = h.more ++ k.more;
  grown = k.grown ∙ ap (λ z. z ++ k.more) h.grown ∙ append_assoc a h.more k.more;
}

pub grows_added : (old new : List Node) (x : Node) (place : ℕ) → Adds old new x place → Grows old new
grows_added old new x place h = record { more = h.more; grown = h.grown }

-- ---- places

some_is : (x y : ℕ) → Some x ≡ Some y → x ≡ y
some_is x y h = cc

none_some : (q : ℕ) (places : NodePlaces) (p : ℕ) → place_in places p ≡ None → place_in places p ≡ Some q → ⊥
none_some q places p h e = cc

pub nothing_within : (n : ℕ) (places : NodePlaces) → ((p : ℕ) → place_in places p ≡ None) → AreWithin n places
nothing_within n places h = record { below = λ p q e. absurd (none_some q places p (h p) e) }

pub nothing_written : (home : List ℕ) (items : List Item) (nodes : List Node) (places : NodePlaces)
    → ((p : ℕ) → place_in places p ≡ None) → AreWritten home items nodes places
nothing_written home items nodes places h = record { each = λ p q e. absurd (none_some q places p (h p) e) }

pub within_later : (old new : List Node) (places : NodePlaces) → Grows old new → AreWithin (length old) places
    → AreWithin (length new) places
within_later old new places g h = record {
  below = λ p q e. (let k : length new ≡ length old + length g.more = ap length g.grown ∙ length-append old g.more in
      let l : q < length old = h.below p q e in omega (arith, k, l));
}

pub written_later : (home : List ℕ) (items : List Item) (old new : List Node) (places : NodePlaces) → Grows old new
    → AreWithin (length old) places → AreWritten home items old places → AreWritten home items new places
written_later home items old new places g h w = record {
  each = λ p q e. ap (λ z. node_at z q) g.grown
      ∙ get_or_append_left old g.more nowhere q (h.below p q e) ∙ w.each p q e;
}

abbrev pub IsSet : NodePlaces → NodePlaces → ℕ → ℕ → Type 0
IsSet old new place node = (p : ℕ) → place_in new p ≡ cond (nat_eq place p) (Some node) (place_in old p)

set_here : (old new : NodePlaces) (place node p q : ℕ) → IsSet old new place node → place_in new p ≡ Some q
    → nat_eq place p ≡ Rattle.std.proofs.Common.true → node ≡ q
set_here old new place node p q set e s =
    some_is node q (sym (ap (λ b. cond b (Some node) (place_in old p)) s) ∙ sym (set p) ∙ e)

set_there : (old new : NodePlaces) (place node p q : ℕ) → IsSet old new place node → place_in new p ≡ Some q
    → nat_eq place p ≡ Rattle.std.proofs.Common.false → place_in old p ≡ Some q
set_there old new place node p q set e s =
    sym (ap (λ b. cond b (Some node) (place_in old p)) s) ∙ sym (set p) ∙ e

pub within_set : (n : ℕ) (old new : NodePlaces) (place node : ℕ) → AreWithin n old → node < n
    → IsSet old new place node → AreWithin n new
within_set n old new place node h k set = record {
  below = λ p q e. either_way (nat_eq place p)
      (λ s. subst (λ z. z < n) (set_here old new place node p q set e s) k)
      (λ s. h.below p q (set_there old new place node p q set e s));
}

pub written_set : (home : List ℕ) (items : List Item) (nodes : List Node) (old new : NodePlaces) (place node : ℕ)
    → AreWritten home items nodes old → node_at nodes node ≡ item_node home (at items place)
    → IsSet old new place node → AreWritten home items nodes new
written_set home items nodes old new place node w k set = record {
  each = λ p q e. either_way (nat_eq place p)
      (λ s. subst (λ z. node_at nodes z ≡ item_node home (at items p)) (set_here old new place node p q set e s)
      (subst (λ z. node_at nodes node ≡ item_node home (at items z)) (eqb-true place p s) k))
      (λ s. w.each p q (set_there old new place node p q set e s));
}

-- ---- a node more

pub added_within : (home : List ℕ) (items : List Item) (old new : List Node) (places more : NodePlaces)
    (place node : ℕ) → AreWithin (length old) places → Adds old new (item_node home (at items place)) node
    → IsSet places more place node → AreWithin (length new) more
added_within home items old new places more place node h a set =
    within_set (length new) places more place node
    (within_later old new places (grows_added old new (item_node home (at items place)) node a) h) a.within set

pub added_written : (home : List ℕ) (items : List Item) (old new : List Node) (places more : NodePlaces)
    (place node : ℕ) → AreWithin (length old) places → AreWritten home items old places
    → Adds old new (item_node home (at items place)) node → IsSet places more place node
    → AreWritten home items new more
added_written home items old new places more place node h w a set =
    written_set home items new places more place node
    (written_later home items old new places (grows_added old new (item_node home (at items place)) node a) h w)
    a.is set

-- the node of a place that was walked from
pub place_added : (home : List ℕ) (items : List Item) (old new : List Node) (places : NodePlaces) (place node : ℕ)
    → Grows old new → AreWithin (length new) places → AreWritten home items new places
    → place_in places place ≡ Some node → Adds old new (item_node home (at items place)) node
place_added home items old new places place node g h w e = record {
  more = g.more;
  grown = g.grown;
  within = h.below place node e;
  is = w.each place node e;
}
