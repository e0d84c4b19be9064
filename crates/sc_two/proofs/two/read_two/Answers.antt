use Rattle.std.proofs.Common.{◌≡◌, ◌+◌, arith, subst, sym, List, ℕ, refl}
use Rattle.std.proofs.lemmas.Result.{err_from_is_err_and}
use Rattle.sc_words.proofs.ReadingLaws.{lines_le}
use Rattle.sc_two.specs.TwoTexts.{IsTwoText}
use Rattle.sc_two.specs.inside.Parts.{IsPart, IsFollowed}
use Rattle.sc_two.specs.inside.Behind.{AreLinesBehind}
use Rattle.sc_two.proofs.Places.{IsFault, before, followed_by, whole_if_none, none_separates, separates_again, two_parts, good_or_wrong, fault_in_front, fault_in_back, malformed_of, refused_of}
use Rattle.sc_two.proofs.two.read_two.Goals as goal

-- the first part's lines are malformed
pub returns-in_err-first_lines-clause-malformed : goal.returns-in_err-first_lines-clause-malformed
returns-in_err-first_lines-clause-malformed c =
    let p = err_from_is_err_and c.from_residual.result c.from_residual.ensures.1 in
    let fault = fault_in_front c.args.bytes.now c.first_part-first.result.text.now c.first_part-first.result.count c.in_err-first_lines.field-0.0 c.first_part-first.ensures.part c.in_err-first_lines.ensures in
    malformed_of c.args.bytes.now c.from_residual.result p.0 p.1 (subst (IsFault c.args.bytes.now) (sym p.2) fault)

pub returns-in_err-first_lines-clause-refused : goal.returns-in_err-first_lines-clause-refused
returns-in_err-first_lines-clause-refused c =
    let p = err_from_is_err_and c.from_residual.result c.from_residual.ensures.1 in
    let fault = fault_in_front c.args.bytes.now c.first_part-first.result.text.now c.first_part-first.result.count c.in_err-first_lines.field-0.0 c.first_part-first.ensures.part c.in_err-first_lines.ensures in
    refused_of c.args.bytes.now c.from_residual.result p.0 p.1 (subst (IsFault c.args.bytes.now) (sym p.2) fault)

pub overflow_add-separator : goal.overflow_add-separator
overflow_add-separator c =
    let part : IsPart c.args.bytes.now c.first_part-first.result.text.now c.first_part-first.result.count = c.first_part-first.ensures.part in
    omega (arith, part.count_is, part.short, lines_le c.first_part-first.result.text.now, c.requires)

pub first_part-second-requires : goal.first_part-second-requires
first_part-second-requires c =
    let followed : IsFollowed c.args.bytes.now c.first_part-first.result.text.now c.in-Some.rest.now =
    followed_by c.args.bytes.now c.first_part-first.result.text.now c.first_part-first.result.rest c.in-Some.rest c.in-Some.is c.first_part-first.ensures.rest in
    omega (arith, followed.short, c.requires)

pub read_behind-requires-2 : goal.read_behind-requires-2
read_behind-requires-2 c =
    let part : IsPart c.args.bytes.now c.first_part-first.result.text.now c.first_part-first.result.count = c.first_part-first.ensures.part in
    let second : IsPart c.in-Some.rest.now c.first_part-second.result.text.now c.first_part-second.result.count = c.first_part-second.ensures.part in
    let followed : IsFollowed c.args.bytes.now c.first_part-first.result.text.now c.in-Some.rest.now =
    followed_by c.args.bytes.now c.first_part-first.result.text.now c.first_part-first.result.rest c.in-Some.rest c.in-Some.is c.first_part-first.ensures.rest in
    omega (arith, part.count_is, followed.short, second.short, lines_le c.first_part-first.result.text.now, c.requires)

-- no line separates
pub returns-in_default-clause-malformed : goal.returns-in_default-clause-malformed
returns-in_default-clause-malformed c =
    let first : List ℕ = c.first_part-first.result.text.now in
    let whole : first ≡ c.args.bytes.now = whole_if_none c.args.bytes.now first c.first_part-first.result.rest c.in_default.is c.first_part-first.ensures.rest in
    malformed_of c.args.bytes.now _ _ refl (none_separates c.args.bytes.now first c.first_part-first.result.count c.in_ok-first_lines.first_lines.items c.first_part-first.ensures.part whole c.in_ok-first_lines.ensures)

pub returns-in_default-clause-refused : goal.returns-in_default-clause-refused
returns-in_default-clause-refused c =
    let first : List ℕ = c.first_part-first.result.text.now in
    let whole : first ≡ c.args.bytes.now = whole_if_none c.args.bytes.now first c.first_part-first.result.rest c.in_default.is c.first_part-first.ensures.rest in
    refused_of c.args.bytes.now _ _ refl (none_separates c.args.bytes.now first c.first_part-first.result.count c.in_ok-first_lines.first_lines.items c.first_part-first.ensures.part whole c.in_ok-first_lines.ensures)

-- the second part's lines are malformed
pub returns-in_err-second_lines-clause-malformed : goal.returns-in_err-second_lines-clause-malformed
returns-in_err-second_lines-clause-malformed c =
    let first : List ℕ = c.first_part-first.result.text.now in
    let rest : List ℕ = c.in-Some.rest.now in
    let followed : IsFollowed c.args.bytes.now first rest = followed_by c.args.bytes.now first c.first_part-first.result.rest c.in-Some.rest c.in-Some.is c.first_part-first.ensures.rest in
    let p = err_from_is_err_and c.from_residual-in_err-second_lines.result c.from_residual-in_err-second_lines.ensures.1 in
    let fault = fault_in_back c.args.bytes.now first rest c.first_part-second.result.text.now c.first_part-first.result.count c.first_part-second.result.count c.in_ok-first_lines.first_lines.items c.in_err-second_lines.field-0.0
    (before c.args.bytes.now first rest c.first_part-first.result.count c.first_part-first.ensures.part followed) c.in_ok-first_lines.ensures c.first_part-second.ensures.part c.in_err-second_lines.ensures in
    malformed_of c.args.bytes.now c.from_residual-in_err-second_lines.result p.0 p.1 (subst (IsFault c.args.bytes.now) (sym p.2) fault)

pub returns-in_err-second_lines-clause-refused : goal.returns-in_err-second_lines-clause-refused
returns-in_err-second_lines-clause-refused c =
    let first : List ℕ = c.first_part-first.result.text.now in
    let rest : List ℕ = c.in-Some.rest.now in
    let followed : IsFollowed c.args.bytes.now first rest = followed_by c.args.bytes.now first c.first_part-first.result.rest c.in-Some.rest c.in-Some.is c.first_part-first.ensures.rest in
    let p = err_from_is_err_and c.from_residual-in_err-second_lines.result c.from_residual-in_err-second_lines.ensures.1 in
    let fault = fault_in_back c.args.bytes.now first rest c.first_part-second.result.text.now c.first_part-first.result.count c.first_part-second.result.count c.in_ok-first_lines.first_lines.items c.in_err-second_lines.field-0.0
    (before c.args.bytes.now first rest c.first_part-first.result.count c.first_part-first.ensures.part followed) c.in_ok-first_lines.ensures c.first_part-second.ensures.part c.in_err-second_lines.ensures in
    refused_of c.args.bytes.now c.from_residual-in_err-second_lines.result p.0 p.1 (subst (IsFault c.args.bytes.now) (sym p.2) fault)

pub overflow_add-result : goal.overflow_add-result
overflow_add-result c =
    let part : IsPart c.args.bytes.now c.first_part-first.result.text.now c.first_part-first.result.count = c.first_part-first.ensures.part in
    let second : IsPart c.in-Some.rest.now c.first_part-second.result.text.now c.first_part-second.result.count = c.first_part-second.ensures.part in
    let followed : IsFollowed c.args.bytes.now c.first_part-first.result.text.now c.in-Some.rest.now =
    followed_by c.args.bytes.now c.first_part-first.result.text.now c.first_part-first.result.rest c.in-Some.rest c.in-Some.is c.first_part-first.ensures.rest in
    omega (arith, part.count_is, followed.short, second.count_is, second.short, lines_le c.first_part-first.result.text.now, lines_le c.first_part-second.result.text.now, c.requires)

pub overflow_add-result-in-Some-rest : goal.overflow_add-result-in-Some-rest
overflow_add-result-in-Some-rest c =
    let part : IsPart c.args.bytes.now c.first_part-first.result.text.now c.first_part-first.result.count = c.first_part-first.ensures.part in
    let second : IsPart c.in-Some.rest.now c.first_part-second.result.text.now c.first_part-second.result.count = c.first_part-second.ensures.part in
    let followed : IsFollowed c.args.bytes.now c.first_part-first.result.text.now c.in-Some.rest.now =
    followed_by c.args.bytes.now c.first_part-first.result.text.now c.first_part-first.result.rest c.in-Some.rest c.in-Some.is c.first_part-first.ensures.rest in
    omega (arith, part.count_is, followed.short, second.count_is, second.short, lines_le c.first_part-first.result.text.now, lines_le c.first_part-second.result.text.now, c.requires)

-- a good text
pub returns-in-None-clause-ok : goal.returns-in-None-clause-ok
returns-in-None-clause-ok c =
    let first : List ℕ = c.first_part-first.result.text.now in
    let rest : List ℕ = c.in-Some.rest.now in
    let second : List ℕ = c.first_part-second.result.text.now in
    let followed : IsFollowed c.args.bytes.now first rest = followed_by c.args.bytes.now first c.first_part-first.result.rest c.in-Some.rest c.in-Some.is c.first_part-first.ensures.rest in
    let whole : second ≡ rest = whole_if_none rest second c.first_part-second.result.rest c.in-None.is c.first_part-second.ensures.rest in
    two_parts c.args.bytes.now first rest second c.first_part-first.result.count c.in_ok-first_lines.first_lines.items c.in_ok-second_lines.second_lines.items
    (before c.args.bytes.now first rest c.first_part-first.result.count c.first_part-first.ensures.part followed) c.in_ok-first_lines.ensures whole c.in_ok-second_lines.ensures

pub returns-in-None-clause-letters : goal.returns-in-None-clause-letters
returns-in-None-clause-letters c =
    let first : List ℕ = c.first_part-first.result.text.now in
    let rest : List ℕ = c.in-Some.rest.now in
    let second : List ℕ = c.first_part-second.result.text.now in
    let followed : IsFollowed c.args.bytes.now first rest = followed_by c.args.bytes.now first c.first_part-first.result.rest c.in-Some.rest c.in-Some.is c.first_part-first.ensures.rest in
    let part : IsPart rest second c.first_part-second.result.count = c.first_part-second.ensures.part in
    let first_read : AreLinesBehind 0 first c.in_ok-first_lines.first_lines.items = c.in_ok-first_lines.ensures in
    let second_read : AreLinesBehind (c.first_part-first.result.count + 1) second c.in_ok-second_lines.second_lines.items = c.in_ok-second_lines.ensures in
    omega (arith, followed.short, part.short, first_read.letters, second_read.letters)

pub returns-in-None-clause-refused : goal.returns-in-None-clause-refused
returns-in-None-clause-refused c =
    let first : List ℕ = c.first_part-first.result.text.now in
    let rest : List ℕ = c.in-Some.rest.now in
    let second : List ℕ = c.first_part-second.result.text.now in
    let followed : IsFollowed c.args.bytes.now first rest = followed_by c.args.bytes.now first c.first_part-first.result.rest c.in-Some.rest c.in-Some.is c.first_part-first.ensures.rest in
    let whole : second ≡ rest = whole_if_none rest second c.first_part-second.result.rest c.in-None.is c.first_part-second.ensures.rest in
    let good : IsTwoText c.args.bytes.now c.in_ok-first_lines.first_lines.items c.in_ok-second_lines.second_lines.items =
    two_parts c.args.bytes.now first rest second c.first_part-first.result.count c.in_ok-first_lines.first_lines.items c.in_ok-second_lines.second_lines.items
    (before c.args.bytes.now first rest c.first_part-first.result.count c.first_part-first.ensures.part followed) c.in_ok-first_lines.ensures whole c.in_ok-second_lines.ensures in
    λ line kind wrong. absurd (good_or_wrong c.args.bytes.now c.in_ok-first_lines.first_lines.items c.in_ok-second_lines.second_lines.items line kind good wrong)

-- a further line separates
pub returns-in-Some-rest-clause-malformed : goal.returns-in-Some-rest-clause-malformed
returns-in-Some-rest-clause-malformed c =
    let first : List ℕ = c.first_part-first.result.text.now in
    let rest : List ℕ = c.in-Some.rest.now in
    let second : List ℕ = c.first_part-second.result.text.now in
    let followed : IsFollowed c.args.bytes.now first rest = followed_by c.args.bytes.now first c.first_part-first.result.rest c.in-Some.rest c.in-Some.is c.first_part-first.ensures.rest in
    let again : IsFollowed rest second c.in-Some-rest.field-0.now = followed_by rest second c.first_part-second.result.rest c.in-Some-rest.field-0 c.in-Some-rest.is c.first_part-second.ensures.rest in
    let wrong = separates_again c.args.bytes.now first rest second c.in-Some-rest.field-0.now c.first_part-first.result.count c.first_part-second.result.count c.in_ok-first_lines.first_lines.items c.in_ok-second_lines.second_lines.items
    (before c.args.bytes.now first rest c.first_part-first.result.count c.first_part-first.ensures.part followed) c.in_ok-first_lines.ensures
    (before rest second c.in-Some-rest.field-0.now c.first_part-second.result.count c.first_part-second.ensures.part again) c.in_ok-second_lines.ensures in
    malformed_of c.args.bytes.now _ _ refl wrong

pub returns-in-Some-rest-clause-refused : goal.returns-in-Some-rest-clause-refused
returns-in-Some-rest-clause-refused c =
    let first : List ℕ = c.first_part-first.result.text.now in
    let rest : List ℕ = c.in-Some.rest.now in
    let second : List ℕ = c.first_part-second.result.text.now in
    let followed : IsFollowed c.args.bytes.now first rest = followed_by c.args.bytes.now first c.first_part-first.result.rest c.in-Some.rest c.in-Some.is c.first_part-first.ensures.rest in
    let again : IsFollowed rest second c.in-Some-rest.field-0.now = followed_by rest second c.first_part-second.result.rest c.in-Some-rest.field-0 c.in-Some-rest.is c.first_part-second.ensures.rest in
    let wrong = separates_again c.args.bytes.now first rest second c.in-Some-rest.field-0.now c.first_part-first.result.count c.first_part-second.result.count c.in_ok-first_lines.first_lines.items c.in_ok-second_lines.second_lines.items
    (before c.args.bytes.now first rest c.first_part-first.result.count c.first_part-first.ensures.part followed) c.in_ok-first_lines.ensures
    (before rest second c.in-Some-rest.field-0.now c.first_part-second.result.count c.first_part-second.ensures.part again) c.in_ok-second_lines.ensures in
    refused_of c.args.bytes.now _ _ refl wrong
