use Rattle.std.proofs.Common.{◌≡◌, ◌∙◌, Some, None, sym, ap}
use Rattle.grammars.specs.Grammar.{head_or}
use Rattle.grammars.specs.Reading.{Out, chain, read}
use Rattle.cm_lexer.specs.declared.token.Token.{Token}
use Rattle.cm_description.specs.Words.{that, begins_member}
use Rattle.cm_description.specs.Grammar.{members, no_members}
use Rattle.cm_description.specs.declared.found.Members.{Members}
use Rattle.cm_description.proofs.Steps.{members_go, round_broken, passed_on}
use Rattle.cm_description.proofs.member_list.members.Goals as goal

pub returns-in_err-found : goal.returns-in_err-found
returns-in_err-found c =
    let file = c.args.source.now.file.now in
    let text = c.args.source.now.bytes.now in
    let rest = c.loop-token.cursor.rest.now in
    let found : that begins_member (head_or rest None) ≡ Some c.in-Some.token = cc in
    let step = members_go file text c.loop-token.found c.in-Some.token rest found in
    let broken = rw c.take.ensures at c.in_err-found.ensures in
    passed_on (members file text no_members) c.args.cursor.now.rest.now c.from_residual.result
    c.in_err-found.field-0.0 c.member_step.new.cursor.rest.now c.from_residual.ensures.1
    (round_broken _ _ _ c.in_err-found.field-0.0 c.member_step.new.cursor.rest.now
    (sym c.loop-token.invariant ∙ step) broken)

pub loop-token-preserved : goal.loop-token-preserved
loop-token-preserved c =
    let file = c.args.source.now.file.now in
    let text = c.args.source.now.bytes.now in
    let rest = c.loop-token.cursor.rest.now in
    let found : that begins_member (head_or rest None) ≡ Some c.in-Some.token = cc in
    let step = members_go file text c.loop-token.found c.in-Some.token rest found in
    let whole = rw c.take.ensures at c.in_ok-found.ensures in
    sym (step ∙ ap (λ (o : Out Token Members). chain o (λ b rest. read (members file text b) rest)) whole)
    ∙ c.loop-token.invariant
