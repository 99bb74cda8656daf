-- What stands in one graph for what stands in another one. Only private functions cite this file.
use Rattle.std.specs.Prelude.{◌≡◌, ℕ, List, Some}
use Rattle.sml_modules.specs.declared.node.Node.{Node}
use Rattle.sml_modules.specs.Items.{Item, at}
use Rattle.sml_modules.specs.Nodes.{node_item, IsNodeAfter}
use Rattle.environment_walks.specs.declared.places.Images.{Images}
use Rattle.environment_walks.specs.Changing.{image_in}

-- something stands there
abbrev pub IsThere : Item → Type 0
IsThere Item.Nowhere = ⊥
IsThere (Item.TypeItem x) = Unit {0}
IsThere (Item.ValueItem x) = Unit {0}
IsThere (Item.EnvItem x) = Unit {0}
IsThere (Item.SignatureItem x) = Unit {0}
IsThere (Item.FunctorItem x) = Unit {0}
IsThere (Item.TopItem x) = Unit {0}

-- at each image in the other graph stands what stands at its place
pub record AreCopied (items copies : List Item) (images : Images) : Type 0 where
  pub same : (p q : ℕ) → image_in images p ≡ Some q → at copies q ≡ at items p
  pub there : (p q : ℕ) → image_in images p ≡ Some q → IsThere (at items p)

-- a node over those of the other graph, for this item
pub record IsCopy (copies : List Item) (item : Item) (x : Node) : Type 0 where
  pub node : IsNodeAfter copies x
  pub is : node_item copies x ≡ item
  pub there : IsThere item

-- .. whatever stands in that graph, as long as the images of the parts do
abbrev pub CopiesOf : List Item → Images → Item → Node → Type 0
CopiesOf items images item x = (copies : List Item) → AreCopied items copies images → IsCopy copies item x
