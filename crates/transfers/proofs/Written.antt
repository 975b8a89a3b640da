-- A block that is written, its stretch put back into the store, is written in the drive.
use Prim.Native.Nat.{ℕ, ◌+◌, ◌≤◌}
use mathlib.Core.List.{List}
use mathlib.Core.Path.{◌≡◌, sym, subst, ◌∙◌}
use lib.ListN.{length}
use Rattle.buffers.proofs.Stretches.{Stretch, filled_within, given_back, length_put, lent_of, put_again, stretch_inside, stretch_put, stretch_of, with_stretch}
use Rattle.geometry.specs.Shape.{adus_per_block, store_length}
use Rattle.geometry.specs.declared.shape.Config.{Config}
use Rattle.model.specs.declared.block.Block.{Block}
use Rattle.model.specs.declared.table.Table.{Table}
use Rattle.rules.proofs.Counting.{length_row}
use Rattle.rules.specs.Blocks.{user_address, user_addresses, written_into}
use Rattle.rules.specs.Drive.{block_at, with_block}
use Rattle.tables.specs.Serving.{drive}
use Rattle.transfers.specs.Transfers.{MayWriteIn, Wrote, WroteIn}

pub wrote_drive : (c : Config) (t : Table) (d n start count : ℕ) (b new : Block) (store left words filled : List ℕ)
    → t.config ≡ c → block_at t n ≡ b → MayWriteIn c d n b count → length store ≡ (store_length c).0
    → WroteIn c d n b (user_addresses start count) (stretch_of c n store) words new left filled
    → Wrote (written_into d n (user_addresses start count) (drive t store)) words (drive (with_block n new t) (with_stretch c n left store)) filled
unfolding written_into
wrote_drive c t d n start count b new store left words filled shape same may all w =
    let fits : b.written.0 + length (user_addresses start count) ≤ (adus_per_block c).0 = rw (length_row (user_address start) count) may.fits in
    let put = filled_within c n b.written.0 (user_addresses start count) store fits (stretch_inside c store n may.inside all) in
    record {
      leaves = rw (shape, same, w.becomes, w.leaves, put);
      fills = rw (shape, same) w.fills;
    }

-- The stretch as it was lent, and the store as it comes back.
pub wrote_back : (c : Config) (t : Table) (d n start count first entries : ℕ) (b new : Block) (store left words filled : List ℕ)
    → Stretch c store n first entries → t.config ≡ c → block_at t n ≡ b → MayWriteIn c d n b count → length store ≡ (store_length c).0
    → length left ≡ length (lent_of store first entries)
    → WroteIn c d n b (user_addresses start count) (lent_of store first entries) words new left filled
    → Wrote (written_into d n (user_addresses start count) (drive t store)) words (drive (with_block n new t) (given_back store first entries left)) filled
wrote_back c t d n start count first entries b new store left words filled cut shape same may all long w =
    subst (λ (s : List ℕ). Wrote (written_into d n (user_addresses start count) (drive t store)) words (drive (with_block n new t) s) filled) (sym (cut.back left long))
    (wrote_drive c t d n start count b new store left words filled shape same may all
    (subst (λ (s : List ℕ). WroteIn c d n b (user_addresses start count) s words new left filled) cut.lent w))

-- The stretch as it is once the block was opened, without its being put back in between.
pub wrote_again : (c : Config) (t : Table) (d n start count : ℕ) (b new : Block) (store fresh left words filled : List ℕ)
    → t.config ≡ c → block_at t n ≡ b → MayWriteIn c d n b count → length store ≡ (store_length c).0
    → length fresh ≡ (adus_per_block c).0 → length left ≡ (adus_per_block c).0
    → WroteIn c d n b (user_addresses start count) fresh words new left filled
    → Wrote (written_into d n (user_addresses start count) (drive t (with_stretch c n fresh store))) words (drive (with_block n new t) (with_stretch c n left store)) filled
wrote_again c t d n start count b new store fresh left words filled shape same may all long same_long w =
    let inside = stretch_inside c store n may.inside all in
    let v = drive t (with_stretch c n fresh store) in
    subst (λ (s : List ℕ). Wrote (written_into d n (user_addresses start count) v) words (drive (with_block n new t) s) filled) (put_again c n fresh store long inside left same_long)
    (wrote_drive c t d n start count b new (with_stretch c n fresh store) left words filled shape same may (length_put c n fresh store long inside ∙ all)
    (subst (λ (s : List ℕ). WroteIn c d n b (user_addresses start count) s words new left filled) (sym (stretch_put c n fresh store long inside)) w))
