use Rattle.std.proofs.Common.{◌≡◌, ◌++◌}
use lib.Utf8.{encode}
use Rattle.std.proofs.lemmas.Str.{encode_ascii}
use Rattle.std.proofs.Output.{has_written_of_eq}
use Rattle.calls.specs.Texts.{byte_text}
use Rattle.calls.proofs.hex.write_byte.Goals as goal

pub returns : goal.returns
returns g c plain ok =
    let high = encode_ascii c.hex_digit-high.result c.hex_digit-high.ensures.ascii in
    let low = encode_ascii c.hex_digit-low.result c.hex_digit-low.ensures.ascii in
    let same : encode c.hex_digit-high.result ++ encode c.hex_digit-low.result ≡ byte_text c.args.byte = cc in
    has_written_of_eq g.W.Write.write_str_gives _ _ _ _ same (c.write.ensures.writes plain ok)
