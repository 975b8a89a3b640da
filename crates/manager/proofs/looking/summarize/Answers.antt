-- What the scans, the choice and the look-ups ensure, with the list or without.
use Rattle.std.proofs.Common.{◌≡◌, ℕ, List, refl, sym, ap, ◌∙◌}
use Rattle.manager.specs.Looking.{list_left}
use Rattle.model.specs.declared.block.Block.{Block}
use Rattle.model.specs.declared.command.Listed.{Listed}
use Rattle.scan.specs.declared.scan.About.{About}
use Rattle.scan.specs.declared.scan.About.TheVariants as about
use Rattle.scan.specs.declared.scan.Subject.{Subject}
use Rattle.manager.proofs.looking.summarize.Goals as goal

-- With no list the marks stay.
no_list : (x : About) (s : Subject) (bs : List Block) (marks : List ℕ) → ((which : Listed) → x ≡ about.Listed which → ⊥) → list_left x s bs marks ≡ marks
no_list about.Domain s bs marks ne = refl
no_list (about.Block n) s bs marks ne = refl
no_list (about.Placement p) s bs marks ne = refl
no_list about.Chosen s bs marks ne = refl
no_list (about.Listed which) s bs marks ne = absurd (ne which refl)

pub returns-in-Listed : goal.returns-in-Listed
returns-in-Listed c =
    let a = c.args in
    record {
      marks = c.scan_blocks-sound.new.marks.row;
      gathered = record {
        ok = c.scan_blocks-sound.result;
        covering = c.scan_domains-covering.result;
        free = c.free_for-free.result;
        walked = c.scan_blocks-sound.ensures;
        covered = rw (c.requires.1) at c.scan_domains-covering.ensures;
        chosen = c.free_for-free.ensures;
        made = rw (c.summary_of-summary.ensures, c.record_of-block.ensures, c.block_about-number.ensures, c.domain_at-domain.ensures, c.place.ensures) refl;
      };
      listed = c.gather_list.ensures
          ∙ sym (ap (λ (x : About). list_left x a.subject a.blocks.now c.scan_blocks-sound.new.marks.row) c.in-Listed.is);
    }

pub returns-in_default : goal.returns-in_default
returns-in_default c =
    let a = c.args in
    record {
      marks = c.scan_blocks-sound.new.marks.row;
      gathered = record {
        ok = c.scan_blocks-sound.result;
        covering = c.scan_domains-covering.result;
        free = c.free_for-free.result;
        walked = c.scan_blocks-sound.ensures;
        covered = rw (c.requires.1) at c.scan_domains-covering.ensures;
        chosen = c.free_for-free.ensures;
        made = rw (c.summary_of-summary.ensures, c.record_of-block.ensures, c.block_about-number.ensures, c.domain_at-domain.ensures, c.place.ensures) refl;
      };
      listed = sym (no_list a.subject.about a.subject a.blocks.now c.scan_blocks-sound.new.marks.row c.in_default.not-Listed);
    }
