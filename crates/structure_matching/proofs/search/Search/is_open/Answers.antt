use Rattle.structure_matching.proofs.Opening.{open_by}
use Rattle.structure_matching.proofs.search.Search.is_open.Goals as goal

pub returns : goal.returns
returns c = open_by c.args.name.now c.args.self.now.bound.names c.args.self.now.rows c.args.self.now.realised.names
    c.in_ok-place_of.field-0 c.in_ok-realised.realised c.is_none.result c.is_none-2.result c.in_ok-place_of.ensures
    c.requires.ready.names c.in_ok-realised.ensures c.is_none.ensures c.if-is_none.false c.is_none-2.ensures
