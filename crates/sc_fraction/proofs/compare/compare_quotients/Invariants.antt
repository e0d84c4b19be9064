use Rattle.std.proofs.Common.{◌≡◌, ◌+◌, ◌*◌, ◌<◌, nat_cmp}
use Rattle.sc_fraction.proofs.compare.compare_quotients.Given as goal

-- the order of the quotients that are left is that of the first two
abbrev pub invariant-parts : goal.invariant-parts
invariant-parts l = record {
  first : 0 < l.b;
  second : 0 < l.e;
  same : nat_cmp (l.a * l.e) (l.c * l.b) ≡ nat_cmp (l.fn.a * l.fn.e) (l.fn.c * l.fn.b);
}

abbrev pub decreases-parts : goal.decreases-parts
decreases-parts l = l.b + l.e
