-- What is left to be read while some nodes are open.
use Rattle.std.specs.Prelude.{ℕ, ◌++◌, set, Some}
use Rattle.cm_bytes.specs.Fields.{Step, ◌>>=◌}
use Rattle.node_bytes.specs.Nodes.{Node, Content, Begun, whole, number_of}
use Rattle.node_bytes.specs.Formats.{Format, Shape}
use Rattle.node_bytes.specs.Reading.{content_at, if_new}
use Rattle.interface_reading.specs.Unbounded.{any_node_at}

-- one content behind another
abbrev pub both : Content → Content → Content
both Content.nothing c = c
both (Content.piece text b) c = Content.piece text (both b c)
both (Content.part x b) c = Content.part x (both b c)

-- a node that is open: its tag, its number, what was read of it, and what stands behind that
pub record Frame : Type 0 where
  pub tag : ℕ
  pub number : ℕ
  pub before : Content
  pub shape : Shape

-- what is done when a node is whole
abbrev pub Then : Type 0
Then = Begun → Node → Step Node

abbrev pub node_in : Frame → Content → Node
node_in fr content = Node.node fr.tag (both fr.before content)

-- a node is whole, if it stands nowhere yet
abbrev pub closing : Then → Frame → Begun → Content → Step Node
closing done fr begun content bytes =
    if_new (number_of begun (node_in fr content)) (node_in fr content)
    >>= λ x. done (set begun fr.number (Some x)) x bytes

-- what stands behind is read, and then the node is whole
abbrev pub going : Format → Then → Frame → Begun → Step Node
going f done fr begun bytes =
    content_at (any_node_at f) fr.shape begun bytes >>= λ r. closing done fr (begun ++ whole r.0.1) r.0.0 r.1

-- more was read of it
abbrev pub on : Frame → Content → Shape → Frame
on fr content shape = record fr { before = both fr.before content; shape = shape }

-- a node that is opened
abbrev pub opened : Format → ℕ → ℕ → Frame
opened f tag number = record { tag = tag; number = number; before = Content.nothing; shape = f.shape tag }

-- a node in an open one is whole, and what stands behind it is read
abbrev pub going_with : Format → Then → Frame → Shape → Then
going_with f done fr next begun x bytes = going f done (on fr (Content.part x Content.nothing) next) begun bytes
