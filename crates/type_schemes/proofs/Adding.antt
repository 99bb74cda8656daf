-- tables with variables and nodes more
use Rattle.std.proofs.Common.{◌≡◌, ◌+◌, [], ◌∷◌, ◌++◌, length, refl, sym, ap, ◌∙◌, subst, arith, take}
use Rattle.std.proofs.lemmas.List.{append_assoc, append-nil, length-append}
use Rattle.std.proofs.Math.Seq.{take-append_seam, take-length}
use Rattle.semantic_objects.specs.declared.name.TyId.{TyId}
use Rattle.type_nodes.specs.declared.node.Node.{Node}
use Rattle.type_nodes.specs.Nodes.{type_in, made}
use Rattle.type_nodes.specs.Tables.{Table, Has, type_of, IsFrontOf, with_node_of}
use Rattle.type_nodes.proofs.Making.{type_front, id_more}
use Rattle.type_schemes.specs.Instances.{Adds, Extends}

pub adds_nothing : (t : Table) → Adds t t
adds_nothing t = record {
  variables = [];
  made = [];
  births = sym (append-nil t.births);
  nodes = sym (append-nil t.nodes);
  trail = refl;
}

pub adds_then : (a b c : Table) → Adds a b → Adds b c → Adds a c
adds_then a b c h k = record {
  variables = h.variables ++ k.variables;
  made = h.made ++ k.made;
  births = k.births ∙ ap (λ z. z ++ k.variables) h.births ∙ append_assoc a.births h.variables k.variables;
  nodes = k.nodes ∙ ap (λ z. z ++ k.made) h.nodes ∙ append_assoc a.nodes h.made k.made;
  trail = k.trail ∙ h.trail;
}

pub adds_node : (t new : Table) (x : Node) → new ≡ with_node_of x t → Adds t new
adds_node t new x e = subst (Adds t) (sym e) (record {
  variables = [];
  made = x ∷ [];
  births = sym (append-nil t.births);
  nodes = refl;
  trail = refl;
})

pub adds_same : (t new : Table) → new ≡ t → Adds t new
adds_same t new e = subst (Adds t) (sym e) (adds_nothing t)

-- what was there stays
pub has_more : (a b : Table) (x : TyId) → Adds a b → Has a x → Has b x
has_more a b x h k =
    let n : length b.births ≡ length a.births + length h.variables = ap length h.births ∙ length-append a.births h.variables in
    let m : length b.nodes ≡ length a.nodes + length h.made = ap length h.nodes ∙ length-append a.nodes h.made in
    id_more (length a.births) (length a.nodes) (length b.births) (length b.nodes) x (omega (arith, n)) (omega (arith, m)) k

pub type_more : (a b : Table) (x : TyId) → Adds a b → Has a x → type_of b x ≡ type_of a x
type_more a b x h k = ap (λ ns. type_in (made ns) x) h.nodes ∙ type_front a.nodes h.made (length a.births) x k

pub adds_front : (a b : Table) → Adds a b → IsFrontOf a b
adds_front a b h = record {
  births = ap (take (length a.births)) h.births ∙ take-append_seam a.births h.variables;
  nodes = ap (take (length a.nodes)) h.nodes ∙ take-append_seam a.nodes h.made;
  trail = ap (take (length a.trail)) h.trail ∙ take-length a.trail;
}

pub adds_extends : (a b : Table) → Adds a b → Extends a b
adds_extends a b h = record {
  front = adds_front a b h;
  trail = h.trail;
  types = λ x k. type_more a b x h k;
  ids = λ x k. has_more a b x h k;
}
