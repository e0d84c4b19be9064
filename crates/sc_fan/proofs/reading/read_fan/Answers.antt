use Rattle.std.proofs.Common.{◌≡◌, ◌≤◌, ◌∙◌, Ok, List, map, length, ap, sym, subst}
use Rattle.std.proofs.lemmas.Result.{err_from_is_err_and}
use Rattle.sc_theory.specs.Chains.{Chain}
use Rattle.sc_line.specs.Formats.{Format}
use Rattle.sc_fan.specs.declared.corner.Corner.{Corner}
use Rattle.sc_fan.specs.declared.fan.Edge.{Edge}
use Rattle.sc_fan.specs.Corners.{corner_said}
use Rattle.sc_fan.specs.Fans.{edges_due}
use Rattle.sc_fan.specs.FanRead.{edge_said, AreJoinedTo}
use Rattle.sc_fan.specs.Reading.{taken, Fails}
use Rattle.sc_fan.proofs.ReaderLaws.{heading_stops, first_stops, second_stops, corners_stop, edges_stop, ending_stops, fan_taken, second_for, chains_in_range, some_corner}
use Rattle.sc_fan.proofs.reading.read_fan.Goals as goal

pub returns-in_err-literal-clause-told : goal.returns-in_err-literal-clause-told
returns-in_err-literal-clause-told c =
    let p = err_from_is_err_and c.from_residual.result c.from_residual.ensures.1 in
    rw (p.1, p.2) (heading_stops c.args.lines.now c.in_err-literal.field-0.0 c.in_err-literal.ensures)

pub returns-in_err-first-clause-told : goal.returns-in_err-first-clause-told
returns-in_err-first-clause-told c =
    let p = err_from_is_err_and c.from_residual-in_err-first.result c.from_residual-in_err-first.ensures.1 in
    rw (p.1, p.2) (first_stops c.args.lines.now c.literal.new.self c.in_ok-literal.ensures c.in_err-first.field-0.0 c.in_err-first.ensures)

pub returns-in_err-second-clause-told : goal.returns-in_err-second-clause-told
returns-in_err-second-clause-told c =
    let s = c.args.lines.now in
    let s1 = c.literal.new.self in
    let headed = c.in_ok-literal.ensures in
    let a = c.in_ok-first.first in
    let s2 = c.read_chain.new.lines in
    let first = c.in_ok-first.ensures in
    let second_is = second_for a c.words-words.result c.positions-letters.result c.words-words.ensures.words c.positions-letters.ensures.positions in
    let bad = subst (λ (f : Format Chain). Fails c.in_err-second.field-0.0 (taken f s2)) second_is c.in_err-second.ensures in
    let p = err_from_is_err_and c.from_residual-in_err-second.result c.from_residual-in_err-second.ensures.1 in
    rw (p.1, p.2) (second_stops s s1 headed a s2 first c.in_err-second.field-0.0 bad)

pub returns-in_err-corners-clause-told : goal.returns-in_err-corners-clause-told
returns-in_err-corners-clause-told c =
    let s = c.args.lines.now in
    let s1 = c.literal.new.self in
    let headed = c.in_ok-literal.ensures in
    let a = c.in_ok-first.first in
    let s2 = c.read_chain.new.lines in
    let first = c.in_ok-first.ensures in
    let second_is = second_for a c.words-words.result c.positions-letters.result c.words-words.ensures.words c.positions-letters.ensures.positions in
    let b = c.in_ok-second.second in
    let s3 = c.read_chain-2.new.lines in
    let second = ap (λ (f : Format Chain). taken f s2) (sym second_is) ∙ c.in_ok-second.ensures in
    let p = err_from_is_err_and c.from_residual-in_err-corners.result c.from_residual-in_err-corners.ensures.1 in
    rw (p.1, p.2) (corners_stop s s1 headed a s2 first b s3 second c.in_err-corners.field-0.0 c.in_err-corners.ensures)

pub read_edges_of-requires : goal.read_edges_of-requires
read_edges_of-requires c =
    let s = c.args.lines.now in
    let s1 = c.literal.new.self in
    let headed = c.in_ok-literal.ensures in
    let a = c.in_ok-first.first in
    let s2 = c.read_chain.new.lines in
    let first = c.in_ok-first.ensures in
    let second_is = second_for a c.words-words.result c.positions-letters.result c.words-words.ensures.words c.positions-letters.ensures.positions in
    let b = c.in_ok-second.second in
    let s3 = c.read_chain-2.new.lines in
    let second = ap (λ (f : Format Chain). taken f s2) (sym second_is) ∙ c.in_ok-second.ensures in
    let some = some_corner s3 c.read_corners.new.lines c.in_ok-corners.corners.items c.in_ok-corners.ensures in
    record {
      chains = chains_in_range s1 s2 s3 a b first second;
      some = subst (λ (xs : List Corner). 1 ≤ length xs) (sym c.as_slice.ensures.value) some;
    }

pub returns-in_err-edges-clause-told : goal.returns-in_err-edges-clause-told
returns-in_err-edges-clause-told c =
    let s = c.args.lines.now in
    let s1 = c.literal.new.self in
    let headed = c.in_ok-literal.ensures in
    let a = c.in_ok-first.first in
    let s2 = c.read_chain.new.lines in
    let first = c.in_ok-first.ensures in
    let second_is = second_for a c.words-words.result c.positions-letters.result c.words-words.ensures.words c.positions-letters.ensures.positions in
    let b = c.in_ok-second.second in
    let s3 = c.read_chain-2.new.lines in
    let second = ap (λ (f : Format Chain). taken f s2) (sym second_is) ∙ c.in_ok-second.ensures in
    let cs = map corner_said c.in_ok-corners.corners.items in
    let s4 = c.read_corners.new.lines in
    let corners = c.in_ok-corners.ensures in
    let slice = c.as_slice.ensures.value in
    let bad = subst (λ (xs : List Corner). Fails c.in_err-edges.field-0.0 (taken (edges_due a b (map corner_said xs)) s4)) slice c.in_err-edges.ensures.told in
    let p = err_from_is_err_and c.from_residual-in_err-edges.result c.from_residual-in_err-edges.ensures.1 in
    rw (p.1, p.2) (edges_stop s s1 headed a s2 first b s3 second cs s4 corners c.in_err-edges.field-0.0 bad)

pub returns-in_err-literal-2-clause-told : goal.returns-in_err-literal-2-clause-told
returns-in_err-literal-2-clause-told c =
    let s = c.args.lines.now in
    let s1 = c.literal.new.self in
    let headed = c.in_ok-literal.ensures in
    let a = c.in_ok-first.first in
    let s2 = c.read_chain.new.lines in
    let first = c.in_ok-first.ensures in
    let second_is = second_for a c.words-words.result c.positions-letters.result c.words-words.ensures.words c.positions-letters.ensures.positions in
    let b = c.in_ok-second.second in
    let s3 = c.read_chain-2.new.lines in
    let second = ap (λ (f : Format Chain). taken f s2) (sym second_is) ∙ c.in_ok-second.ensures in
    let cs = map corner_said c.in_ok-corners.corners.items in
    let s4 = c.read_corners.new.lines in
    let corners = c.in_ok-corners.ensures in
    let slice = c.as_slice.ensures.value in
    let lists = map (λ (e : Edge). e.list) c.in_ok-edges.edges.items in
    let s5 = c.read_edges_of.new.lines in
    let edges = subst (λ (xs : List Corner). taken (edges_due a b (map corner_said xs)) s4 ≡ Ok (lists, s5)) slice c.in_ok-edges.ensures.told in
    let p = err_from_is_err_and c.from_residual-in_err-literal-2.result c.from_residual-in_err-literal-2.ensures.1 in
    rw (p.1, p.2) (ending_stops s s1 headed a s2 first b s3 second cs s4 corners lists s5 edges c.in_err-literal-2.field-0.0 c.in_err-literal-2.ensures)

pub returns-clause-told : goal.returns-clause-told
returns-clause-told c =
    let s = c.args.lines.now in
    let s1 = c.literal.new.self in
    let headed = c.in_ok-literal.ensures in
    let a = c.in_ok-first.first in
    let s2 = c.read_chain.new.lines in
    let first = c.in_ok-first.ensures in
    let second_is = second_for a c.words-words.result c.positions-letters.result c.words-words.ensures.words c.positions-letters.ensures.positions in
    let b = c.in_ok-second.second in
    let s3 = c.read_chain-2.new.lines in
    let second = ap (λ (f : Format Chain). taken f s2) (sym second_is) ∙ c.in_ok-second.ensures in
    let cs = map corner_said c.in_ok-corners.corners.items in
    let s4 = c.read_corners.new.lines in
    let corners = c.in_ok-corners.ensures in
    let slice = c.as_slice.ensures.value in
    let lists = map (λ (e : Edge). e.list) c.in_ok-edges.edges.items in
    let s5 = c.read_edges_of.new.lines in
    let edges = subst (λ (xs : List Corner). taken (edges_due a b (map corner_said xs)) s4 ≡ Ok (lists, s5)) slice c.in_ok-edges.ensures.told in
    fan_taken s s1 headed a s2 first b s3 second cs s4 corners lists s5 edges c.literal-2.new.self c.in_ok-literal-2.ensures

pub returns-clause-joined : goal.returns-clause-joined
returns-clause-joined c = subst (λ (xs : List Corner). AreJoinedTo (map corner_said xs) (map edge_said c.in_ok-edges.edges.items)) c.as_slice.ensures.value c.in_ok-edges.ensures.joined
