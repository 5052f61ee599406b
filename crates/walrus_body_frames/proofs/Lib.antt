mod Editing
