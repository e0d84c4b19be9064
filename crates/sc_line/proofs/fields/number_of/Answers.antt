use Rattle.std.proofs.Common.{refl, rules}
use Rattle.std.proofs.lemmas.Bool.{false≢true}
use Rattle.sc_line.proofs.LineLaws.{number_of_from, number_of_none}
use Rattle.sc_line.proofs.fields.number_of.Goals as goal

pub returns-in-Some-clause-ok : goal.returns-in-Some-clause-ok
returns-in-Some-clause-ok c =
    let z = c.in-Some.number in record {
      value = z;
      spells = number_of_from _ z c.in-Some.ensures.spelled;
      narrowed = search rules;
    }

pub returns-in-None-clause-ok : goal.returns-in-None-clause-ok
returns-in-None-clause-ok c =
    let found = c.if-is_decimal.ensures.0 refl in record {
      value = found.0;
      spells = number_of_from _ found.0 found.1;
      narrowed = λ fits. c.in-None.ensures.refused.0 refl found.0 fits found.1;
    }

pub returns-in-None-2-clause-err : goal.returns-in-None-2-clause-err
returns-in-None-2-clause-err c =
    (refl, number_of_none c.args.field.now (λ z e. false≢true (c.if-is_decimal.ensures.1 (z, e))))
