-- The function gives a top exactly where the bytes are an interface of it.
use Rattle.std.proofs.Common.{◌≡◌, ℕ, sym, ap, subst, ◌∙◌, List, drop, Option, Some, None}
use Rattle.node_bytes.specs.Nodes.{Node}
use Rattle.node_bytes.specs.Reading.{alone_at}
use Rattle.node_bytes.specs.Interfaces.{interfaces}
use Rattle.unification.proofs.Walking.{either_way}
use Rattle.semantic_objects.specs.Environments.{Top}
use Rattle.interface_format.specs.Interfaces.{IsInterface}
use Rattle.restoring_laws.proofs.Reading.{are_read}
use Rattle.interface_tops.specs.Contents.{top_of}
use Rattle.interface_tops.specs.Conditions.{is_interface}
use Rattle.interface_tops.specs.Tops.{top_if, checked_top, interface_top}
use Rattle.interface_tops.specs.Promises.{InterfacesHaveTops}
use Rattle.interface_tops.proofs.Conditions.{an_interface}
use Rattle.interface_tops.proofs.Contents.{top_back}

some_told : (a b : Top) → Some a ≡ Some b → a ≡ b
some_told a b e = cc

checked : (home bytes : List ℕ) (top : Top) (found : Option (Node × List ℕ)) → checked_top home bytes found ≡ Some top
    → IsInterface home bytes top
checked home bytes top None e = absurd (cc)
checked home bytes top (Some found) e =
    let made = top_of home found.0 in
    either_way (is_interface home bytes made)
    (λ k. subst (IsInterface home bytes) (some_told made top (sym (ap (λ b. top_if b made) k) ∙ e))
    ((an_interface home bytes made).yes k))
    (λ k. absurd (let none : None ≡ Some top = sym (ap (λ b. top_if b made) k) ∙ e in cc))

found : (home bytes : List ℕ) (top : Top) → IsInterface home bytes top → interface_top home bytes ≡ Some top
found home bytes top h =
    let of = are_read.read home bytes top h in
    let behind : drop 4 bytes ≡ of.rest = ap (drop 4) of.marked in
    let again = top_back home top h.rules.tables in
    ap (λ (rest : List ℕ). checked_top home bytes (alone_at interfaces rest)) behind
    ∙ ap (checked_top home bytes) of.read
    ∙ ap (λ (made : Top). top_if (is_interface home bytes made) made) again
    ∙ ap (λ b. top_if b top) ((an_interface home bytes top).so h)

pub have_tops : InterfacesHaveTops
have_tops = record {
  is = λ home bytes top e. checked home bytes top (alone_at interfaces (drop 4 bytes)) e;
  found = found;
}
