-- The tool that makes the source of a member.
use Rattle.std.specs.Prelude.{ℕ, ◌≡◌, List, Some}
use Rattle.cm_description.specs.declared.description.MemberEntry.{MemberEntry}
use Rattle.tool_deriving.specs.Toolboxes.{rules_of}
use Rattle.member_deriving.specs.Classes.{IsToolOf}
use Rattle.tool_loading.specs.Projects.{tool_of}

-- the place of the tool in the box, and its class, which is the member's
pub record IsMaker {A : Type 0} (class_of rule_of : A → List ℕ) (tools : List A) (member : MemberEntry) (place : ℕ)
    (class : List ℕ) : Type 0 where
  pub tool : IsToolOf class_of rule_of class tools place
  pub named : tool_of (rules_of class_of rule_of tools) member ≡ Some (class, rule_of tool.place.tool)
