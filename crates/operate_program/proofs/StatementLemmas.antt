-- What the assembler answers to a source is what it makes of the line.
use Rattle.std.proofs.Common.{◌≡◌, ℕ, List, Result, Ok, Err, sym, ap, ◌∙◌}
use Rattle.autocoder_1401.specs.Assembly.{assembly_in, with_listing}
use Rattle.autocoder_1401.specs.declared.assembly.Assembly.{Assembly}
use Rattle.autocoder_statements.specs.declared.language.Language.{Language}
use Rattle.autocoder_symbols.specs.declared.fault.AsmFault.{AsmFault}
use Rattle.machine_image.specs.declared.image.Image.{Image}
use Rattle.operate_program.specs.Known.{Known}
use Rattle.operate_program.specs.Statement.{assembled_commands, commands_or_fault, image_commands, statement_source}
use Rattle.operate_program.specs.declared.fault.ActFault.TheVariants as fault

same_answer : (known : Known) (size at : ℕ) (line source : List ℕ) (language : Language)
    (answer : Result Assembly AsmFault) → language ≡ known.language → source ≡ statement_source known at line
    → assembly_in language size source ≡ answer
    → assembly_in known.language size (statement_source known at line) ≡ answer
same_answer known size at line source language answer same text is =
    ap (λ (l : Language). assembly_in l size (statement_source known at line)) (sym same)
    ∙ ap (λ (t : List ℕ). assembly_in language size t) (sym text)
    ∙ is

pub assembled : (known : Known) (size at : ℕ) (statement line source : List ℕ) (language : Language) (image : Image)
    → language ≡ known.language → source ≡ statement_source known at line
    → assembly_in language size source ≡ Ok (with_listing language source image)
    → assembled_commands known size at statement line ≡ image_commands statement image
assembled known size at statement line source language image same text is =
    ap (commands_or_fault size at statement)
    (same_answer known size at line source language (Ok (with_listing language source image)) same text is)

pub refused : (known : Known) (size at : ℕ) (statement line source : List ℕ) (language : Language) (why : AsmFault)
    → language ≡ known.language → source ≡ statement_source known at line
    → assembly_in language size source ≡ Err why
    → assembled_commands known size at statement line ≡ Err (fault.Statement statement at size)
refused known size at statement line source language why same text is =
    ap (commands_or_fault size at statement) (same_answer known size at line source language (Err why) same text is)
