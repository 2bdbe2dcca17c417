use Rattle.std.proofs.Common.{rules, ap, ◌≡◌, ◌∷◌, ◌<◌, ◌-◌, length, map, take, drop, append_assoc, to_z-of_z, FitsSigned, w64, get_or, pos}
use Rattle.iso_formats.specs.MeshText.{millionths}
use Rattle.off_write.proofs.Texts.{line_of_map, first_and_rest}
use Rattle.off_write.proofs.lines.push_vertex.Goals as goal

pub returns : goal.returns
returns g c =
    let v = c.args.vertex.now in
    let rest = take (length v - 1) (drop 1 v) in
    let first = get_or v 0 (pos 0) in
    let fits : FitsSigned w64 (get_or c.args.vertex.now 0 (pos 0)) = search rules in
    let some : 0 < length c.args.vertex.now = search rules in
    let all : map millionths c.args.vertex.now ≡ millionths first ∷ map millionths rest = ap (map millionths) (first_and_rest v (pos 0) some) in
    record {
      text = rw (
        all,
        line_of_map millionths (millionths first) rest,
        c.push.ensures,
        c.push_rest.ensures.text,
        c.push_coordinate.ensures.text,
        to_z-of_z fits,
      )
          (simp append_assoc);
    }
