use Rattle.std.proofs.Common.{◌≤◌, refl, sym, subst, length}
use Rattle.std.specs.Prelude.{Err}
use Rattle.node_bytes.specs.Interfaces.{interfaces}
use Rattle.node_bytes.specs.Spelling.{spelling}
use Rattle.node_bytes.specs.Tables.{Writes}
use Rattle.interface_nodes.specs.Fields.{node_at}
use Rattle.env_pickle.proofs.Marking.{bytes_of, length_of, too_long}
use Rattle.env_pickle.proofs.writing.write_interface.Goals as goal

pub returns-in_ok-marked-in-Ok : goal.returns-in_ok-marked-in-Ok
returns-in_ok-marked-in-Ok c = λ top e.
    let x = node_at c.args.table.now c.args.root in
    let text = c.in_ok-marked-in-Ok.field-0 in
    let written = c.in-Ok.ensures interfaces refl in (
      bytes_of c.args.home.now top x c.in-Ok.bytes text e written.0 c.in_ok-marked-in-Ok.ensures,
      length_of c.in-Ok.bytes text c.in_ok-marked-in-Ok.ensures
          (subst (λ z. length z ≤ 1048572) (sym written.0) written.1),
    )

pub returns-in_ok-on_file-in-Err-TooLong : goal.returns-in_ok-on_file-in-Err-TooLong
returns-in_ok-on_file-in-Err-TooLong c = λ top e.
    let x = node_at c.args.table.now c.args.root in (
      c.in_ok-on_file-in-Err-TooLong.ensures,
      too_long c.args.home.now top x e
          (subst (λ z. Writes 1048572 (spelling interfaces x) (Err z)) c.in-Err-TooLong.field-0-is
          (c.in-Err-TooLong.ensures interfaces refl)),
    )
