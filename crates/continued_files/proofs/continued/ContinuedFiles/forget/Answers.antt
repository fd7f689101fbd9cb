use Rattle.continued_files.proofs.continued.ContinuedFiles.forget.Goals as goal
