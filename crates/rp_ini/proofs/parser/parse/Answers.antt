-- The lines of the text give its sections.
use Rattle.rp_ini.proofs.ParserLemmas.{assigned_by}
use Rattle.rp_ini.proofs.parser.parse.Goals as goal

pub returns : goal.returns
returns c =
    assigned_by c.args.bytes.now c.in_ok-decoded.field-0.now c.new.result c.parse_lines.result c.in_ok-decoded.ensures.0 c.in_ok-decoded.ensures.1 c.new.ensures c.parse_lines.ensures
