-- What a reader of the heading and the words shows and keeps.
use Rattle.sc_certificate.specs.Fronts.{FrontSoFar, IsReached, front_at}
use Rattle.sc_certificate.specs.declared.front.Front.TheInside.{Inside}

abbrev pub front_so_far : Inside → FrontSoFar
front_so_far r = record {
  text = r.lines.first.text.now;
  headed = r.lines.first.read;
  name = r.lines.second.name.now;
  most = r.lines.second.most;
  letters = r.lines.second.kind.letters;
  limits = r.lines.second.kind.limits;
  words = record { count = r.lines.second.count; items = r.lines.second.values.items };
}

-- the lines that were read led to what is due
abbrev pub IsFront : Inside → Type 0
IsFront r = IsReached (front_at (front_so_far r))
