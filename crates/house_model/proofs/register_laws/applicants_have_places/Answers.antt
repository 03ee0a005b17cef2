use Rattle.std.proofs.Common.{arith}
use Rattle.house_model.proofs.RegisterPeopleLemmas.{length-people}
use Rattle.house_model.proofs.RegisterPlaceLemmas.{place-below, place-apart, slice_get-place}
use Rattle.house_model.proofs.register_laws.applicants_have_places.Goals as goal

pub returns : goal.returns
returns c = record {
  below = λ reg i l. omega (arith, place-below reg i l, length-people reg);
  apart = λ reg i j il jl ne e. ne (place-apart reg i j il jl e);
  stands = slice_get-place;
}
