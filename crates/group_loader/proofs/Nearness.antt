-- The members of a group are one written path further from ROOT than it, so their names are short.
use Rattle.std.proofs.Common.{◌≡◌, ap, subst, refl, ℕ, ◌+◌, ◌<◌, ◌^◌, List, length, Result, Ok, Err, arith}
use Rattle.cm_base.specs.Diags.{◌>>=◌}
use Rattle.cm_base.specs.declared.diag.Diag.{Diag}
use Rattle.path_anchors.specs.Names.{Bindings}
use Rattle.cm_description.specs.declared.description.MemberEntry.{MemberEntry}
use Rattle.project_loading.specs.Projects.{class_of, found_of, member_name, options_of}
use Rattle.project_loading.specs.declared.found.Found.{Found}
use Rattle.loader_parts.specs.ShortNames.{IsNear}
use Rattle.loader_parts.proofs.NameLengths.{member_near, near_short}
use Rattle.tool_loading.specs.Projects.{no_options, tool_member_name}

both_ok : {A B : Type 0} (m : Result A Diag) (next : A → Result B Diag) (b : B) → (m >>= next) ≡ Ok b
    → (a : A) × (m ≡ Ok a) × (next a ≡ Ok b)
both_ok (Ok a) next b is = (a, refl, is)
both_ok (Err diag) next b is = absurd cc

-- the levels below don't matter to a member that is a source
pub near_last : (levels : ℕ) (name : List ℕ) → IsNear (levels + 1) name → IsNear 1 name
near_last levels name near =
    let count = near.count in record { parts = near.parts; count = omega (arith, count) }

pub found_near : (anchors : Bindings) (holder : List ℕ) (member : MemberEntry) (found : Found) (levels : ℕ)
    → IsNear (levels + 1) holder → found_of anchors holder member ≡ Ok found → IsNear levels found.name
found_near anchors holder member found levels near is =
    let one = both_ok (member_name anchors holder member) _ found is in
    let two = both_ok (class_of member one.0) _ found one.2 in
    let three = both_ok (options_of member two.0) _ found two.2 in
    let whole : record { name = one.0; class = two.0; options = three.0 } ≡ found = cc (three.2) in
    let same : one.0 ≡ found.name = ap (λ (f : Found). f.name) whole in
    subst (IsNear levels) same (member_near anchors holder member one.0 levels near one.1)

pub found_short : (anchors : Bindings) (holder : List ℕ) (member : MemberEntry) (found : Found) (levels : ℕ)
    → IsNear (levels + 1) holder → found_of anchors holder member ≡ Ok found → length found.name < 2 ^ 32
found_short anchors holder member found levels near is =
    near_short levels found.name (found_near anchors holder member found levels near is)

pub tool_member_short : (anchors : Bindings) (holder : List ℕ) (member : MemberEntry) (name : List ℕ)
    → IsNear 1 holder → tool_member_name anchors holder member ≡ Ok name → length name < 2 ^ 32
tool_member_short anchors holder member name near is =
    let one = both_ok (member_name anchors holder member) _ name is in
    let two = both_ok (no_options member.at member.options) _ name one.2 in
    let same : one.0 ≡ name = cc (two.2) in
    near_short 0 name (subst (IsNear 0) same (member_near anchors holder member one.0 0 near one.1))
