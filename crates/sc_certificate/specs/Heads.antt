-- What is known once the line of the value was read, and what is due behind the heading and the words.
use Rattle.std.specs.Prelude.{◌≡◌, Option, Some, None}
use Rattle.sc_theory.specs.Chains.{Chain}
use Rattle.sc_theory.specs.Prices.{pairs}
use Rattle.sc_line.specs.Formats.{Format, told}
use Rattle.sc_line.specs.Forms.{one_due, and_also, and_then, both_due}
use Rattle.sc_text.specs.ValueLines.{Quotient, a_value, quotient_of}
use Rattle.sc_certificate.specs.Certificates.{Certificate, FrontTold, BodyTold, certificate_told}
use Rattle.sc_certificate.specs.declared.head.Head.TheInside.{Inside}

-- a chain and a value
pub record ChainAndValue : Type 0 where
  pub chain : Chain
  pub value : Quotient

abbrev pub head_of : Chain → Quotient → ChainAndValue
head_of c q = record { chain = c; value = q }

abbrev pub chain_and_value : Inside → ChainAndValue
chain_and_value h = head_of h.chain (quotient_of h.value)

-- the pairs are those of the chain
abbrev pub HasItsPairs : Inside → Type 0
HasItsPairs h = h.pairs ≡ pairs h.chain

-- what is due of a body, behind a heading, words and a value
abbrev pub behind : FrontTold → Quotient → Format BodyTold → Format Certificate
behind x q b = and_then (and_then (and_then b (λ y. told (and_also q y))) (λ y. told (and_also x y))) (λ t. told (certificate_told t))

-- what is due where this is due of the heading and the words, or a head was read, and this is due of the body behind
-- a head
unfoldable pub lines_at : Format FrontTold → Option ChainAndValue → (ChainAndValue → Format BodyTold) → Format Certificate
lines_at f None body = and_then (both_due f (λ x. both_due (one_due a_value None) (λ q. body (head_of x.second q)))) (λ t. told (certificate_told t))
lines_at f (Some h) body = behind (and_also tt h.chain) h.value (body h)
