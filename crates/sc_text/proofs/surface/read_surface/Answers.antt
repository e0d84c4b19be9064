use Rattle.sc_text.proofs.SurfaceLaws.{is_faultless, is_malformed, only_first, is_same}
use Rattle.sc_text.proofs.surface.read_surface.Goals as goal

pub returns : goal.returns
returns c =
    let r = c.read_parts.result in
    let read = c.read_parts.ensures in
    record {
      text = read.text;
      in_range = read.in_range;
      faultless = is_faultless c.args.bytes.now r read;
      malformed = is_malformed c.args.bytes.now r read;
      only = only_first c.args.bytes.now r read;
      again = is_same c.args.bytes.now r read;
    }
