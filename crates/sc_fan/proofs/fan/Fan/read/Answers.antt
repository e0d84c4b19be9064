use Rattle.sc_fan.proofs.TextLaws.{is_faultless, is_malformed, only_first, is_same, is_memory}
use Rattle.sc_fan.proofs.fan.Fan.read.Goals as goal

pub returns : goal.returns
returns c =
    let r = c.read_text.result in
    let read = c.read_text.ensures.read in
    record {
      text = read.text;
      in_range = read.in_range;
      joined = c.read_text.ensures.joined;
      faultless = is_faultless c.args.bytes.now r read;
      malformed = is_malformed c.args.bytes.now r read;
      only = only_first c.args.bytes.now r read;
      read = is_same c.args.bytes.now r read;
      memory = is_memory c.args.bytes.now r read;
    }
