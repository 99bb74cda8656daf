use Rattle.std.proofs.Common.{◌∙◌, ap, ap₂}
use Rattle.command_parts.specs.Lines.{last_line, report}
use Rattle.command_parts.specs.Meaning.{status_of}
use Rattle.command_parts.proofs.work.finish.Goals as goal

pub returns-clause-ends : goal.returns-clause-ends
returns-clause-ends g c = λ files is.
    let links = c.in_ok-ended.ensures.links files is in
    record {
      status = c.status_of.ensures.is ∙ ap status_of links.0;
      text = c.from_vec.ensures ∙ c.in_ok-text.ensures ∙ ap₂ report c.as_slice.ensures links.0;
      last = c.from_vec-2.ensures ∙ c.in_ok-last.ensures ∙ ap₂ last_line c.as_slice-2.ensures links.0;
      files = links.1;
    }
